-- The byte at a place, both ways.
use Rattle.std.proofs.Common.{◌≡◌, ◌↔◌, ℕ, ◌+◌, ◌*◌, ◌/◌, ◌%◌, ◌<◌, ◌≤◌, Some, None, sym, ap, subst, ◌∙◌, arith, inl, inr}
use Rattle.std.proofs.lemmas.Bool.{cases_eq, eq-eqb, ne_eqb}
use Rattle.std.proofs.lemmas.Nat.{div-add-mod', div_below, mod_below, mul-le}
use Rattle.std.proofs.Math.Nat.{mul-le-mul_right, mul_comm, mul-mul-mul_comm, add-mul, div-mul-le_self}
use Rattle.std.proofs.lemmas.Option.{same_Some}
use Rattle.data_map.specs.declared.check.RawMap.{RawMap}
use Rattle.data_map.specs.Check.{IsChecked}
use Rattle.data_map.specs.Striping.{positions, group_width, groups, parities, data_units, stripe_length, data_unit_of, group_of, row_of, offset_of, position_of, place_of}
use Rattle.data_map.specs.Inverse.{LiesAt, HoldsParity, HasNoByte, stripe_at, unit_at, byte_at}
use Rattle.data_map.proofs.Numbers.{stripe_most, two_digits}
use Rattle.data_map.proofs.Shape.{whole_groups, some_width, some_groups, few_data, few_parities}
use Rattle.data_map.proofs.Striping.{group_again, row_again, turned_again, unit_below, unit_found, data_unit_below, position_below, place_found, found_again, placed}

-- the group of a position that there is
pub group_there : (m : RawMap) (p : ℕ) → IsChecked m → p < positions m → p / group_width m < groups m
group_there m p c below = div_below p (group_width m) (groups m) (some_width m c) (omega (arith, below, whole_groups m c))

pub place_there : (m : RawMap) (p : ℕ) → IsChecked m → p % group_width m < group_width m
place_there m p c = mod_below p (group_width m) (some_width m c)

-- a position that there is belongs to the unit of its stripe, and an offset to the row of its stripe
position_again : (m : RawMap) (p o : ℕ) → IsChecked m → p < positions m → position_of m (stripe_at m p o) (unit_at m p o) ≡ p
position_again m p o c below =
    ap (λ x. x + group_of m (stripe_at m p o) * group_width m)
    (turned_again m (stripe_at m p o) (p % group_width m) (place_there m p c))
    ∙ ap (λ g. p % group_width m + g * group_width m) (group_again m (p / group_width m) (o / m.unit) c (group_there m p c below))
    ∙ omega (arith, div-add-mod' p (group_width m))

row_there : (m : RawMap) (p o : ℕ) → IsChecked m → p < positions m → row_of m (stripe_at m p o) ≡ o / m.unit
row_there m p o c below = row_again m (p / group_width m) (o / m.unit) c (group_there m p c below)

-- a data unit's byte lies there
lies_there : (m : RawMap) (p o : ℕ) → IsChecked m → p < positions m → unit_at m p o < data_units m → LiesAt m (byte_at m p o) p o
lies_there m p o c below holds =
    let there = placed m (stripe_at m p o) (unit_at m p o) (o % m.unit) holds (mod_below o m.unit c.some_unit) in (
      there.0 ∙ position_again m p o c below,
      there.1 ∙ ap (λ r. r * m.unit + o % m.unit) (row_there m p o c below)
          ∙ div-add-mod' o m.unit,
    )

-- and no other byte does
only_one : (m : RawMap) (l p o : ℕ) → IsChecked m → LiesAt m l p o → byte_at m p o ≡ l
only_one m l p o c there =
    ap (λ x. byte_at m x o) (sym there.0) ∙ ap (λ x. byte_at m (place_of m l).position x) (sym there.1) ∙ found_again m l c

-- where a byte lies, there is a data unit
holds_data : (m : RawMap) (l p o : ℕ) → IsChecked m → LiesAt m l p o → unit_at m p o < data_units m
holds_data m l p o c there =
    let unit : unit_at m p o ≡ data_unit_of m l =
    ap (λ x. unit_at m x o) (sym there.0) ∙ ap (λ x. unit_at m (place_of m l).position x) (sym there.1)
    ∙ (place_found m l c).1 in
    omega (arith, unit, data_unit_below m l c)

-- where parity lies, there is none
parity_unit : (m : RawMap) (p o s unit : ℕ) → IsChecked m → row_of m s ≡ o / m.unit → unit < group_width m →
    position_of m s unit ≡ p → unit_at m p o ≡ unit
parity_unit m p o s unit c row below position =
    let offset : offset_of m s (o % m.unit) ≡ o = ap (λ r. r * m.unit + o % m.unit) row ∙ div-add-mod' o m.unit in
    ap (λ x. unit_at m x o) (sym position) ∙ ap (λ x. unit_at m (position_of m s unit) x) (sym offset)
    ∙ (unit_found m s unit (o % m.unit) c below (mod_below o m.unit c.some_unit)).1

holds_parity : (m : RawMap) (p o : ℕ) → IsChecked m → HoldsParity m p o → data_units m ≤ unit_at m p o
holds_parity m p o c (s, row, inl p_there) = elim (cases_eq (parities m) 0) [
  | inl none ↦ absurd (cc (rw (eq-eqb (parities m) 0 none) at p_there))
  | inr some ↦ omega (
    arith,
    parity_unit m p o s (data_units m) c row (omega (arith, some, c.some_data))
        (same_Some _ _ (rw (ne_eqb (parities m) 0 some) at p_there)),
  )
]
holds_parity m p o c (s, row, inr q_there) = elim (cases_eq (parities m) 2) [
  | inl two ↦ omega (
    arith,
    parity_unit m p o s (data_units m + 1) c row (omega (arith, two, c.some_data))
        (same_Some _ _ (rw (eq-eqb (parities m) 2 two) at q_there)),
  )
  | inr other ↦ absurd (cc (rw (ne_eqb (parities m) 2 other) at q_there))
]

-- a unit that is none of data is parity
parity_there : (m : RawMap) (p o : ℕ) → IsChecked m → p < positions m → data_units m ≤ unit_at m p o → HoldsParity m p o
parity_there m p o c below none =
    let s = stripe_at m p o in
    let inside : unit_at m p o < group_width m = unit_below m s (p % group_width m) (place_there m p c) in
    let position = position_again m p o c below in (
      s,
      row_there m p o c below,
      elim (cases_eq (unit_at m p o) (data_units m)) [
        | inl first ↦
            let some : parities m ≡ 0 → ⊥ = λ e. absurd (omega (arith, e, first, inside)) in
            inl (rw (ne_eqb (parities m) 0 some) (ap Some (ap (λ k. position_of m s k) (sym first) ∙ position)))
        | inr second ↦
            let two : parities m ≡ 2 = omega (arith, few_parities m, none, second, inside) in
            let unit : unit_at m p o ≡ data_units m + 1 = omega (arith, two, none, second, inside) in
            inr (rw (eq-eqb (parities m) 2 two) (ap Some (ap (λ k. position_of m s k) (sym unit) ∙ position)))
      ],
    )

-- ---- the answers of `logical`

pub out_of_range : (m : RawMap) (p o l : ℕ) → IsChecked m → positions m ≤ p → (None ≡ Some l) ↔ LiesAt m l p o
out_of_range m p o l c high = (λ e. absurd (cc e), λ there. absurd (omega (arith, position_below m l c, there.0, high)))

pub no_data : (m : RawMap) (p o l : ℕ) → IsChecked m → data_units m ≤ unit_at m p o → (None ≡ Some l) ↔ LiesAt m l p o
no_data m p o l c none = (λ e. absurd (cc e), λ there. absurd (omega (arith, holds_data m l p o c there, none)))

pub is_parity : (m : RawMap) (p o : ℕ) → IsChecked m → p < positions m → data_units m ≤ unit_at m p o → HasNoByte m p o
is_parity m p o c below none = inr (parity_there m p o c below none)

pub is_byte : (m : RawMap) (p o l : ℕ) → IsChecked m → p < positions m → unit_at m p o < data_units m →
    (Some (byte_at m p o) ≡ Some l) ↔ LiesAt m l p o
is_byte m p o l c below holds = (
  λ e. subst (λ x. LiesAt m x p o) (same_Some _ _ e) (lies_there m p o c below holds),
  λ there. ap Some (only_one m l p o c there),
)

pub has_byte : (m : RawMap) (p o : ℕ) → IsChecked m → p < positions m → unit_at m p o < data_units m → HasNoByte m p o → ⊥
has_byte m p o c below holds (inl high) = omega (arith, below, high)
has_byte m p o c below holds (inr parity) = omega (arith, holds_parity m p o c parity, holds)

-- ---- how large the byte's number is

pub stripe_low : (m : RawMap) (p o : ℕ) → IsChecked m → p < positions m → stripe_at m p o ≤ (o / m.unit + m.depth) * groups m
stripe_low m p o c below =
    let row = o / m.unit in
    elim (cases_eq m.width 0) [
      | inl none ↦ rw (eq-eqb m.width 0 none)
          (omega (
            arith,
            mul-le (row + m.depth) 1 (row + m.depth) (positions m / positions m) (omega arith)
                (rw (eq-eqb m.width 0 none) at (some_groups m c)),
          ))
      | inr some ↦
          let whole : row / m.depth * m.depth + row % m.depth ≡ row = div-add-mod' row m.depth in
          let low = stripe_most m.depth (groups m) (row / m.depth) (p / group_width m) (row % m.depth) (group_there m p c below)
          (mod_below row m.depth (c.some_depth some)) in
          rw (ne_eqb m.width 0 some) (rw (ne_eqb m.width 0 some, whole) at low)
    ]

-- the file's bytes before a place's stripe
pub byte_low : (m : RawMap) (p o : ℕ) → IsChecked m → p < positions m → o < 1_099_511_627_776 →
    stripe_at m p o * stripe_length m < 4_503_599_627_370_496
byte_low m p o c below inside =
    let s = stripe_at m p o in
    let rows : (o / m.unit + m.depth) * m.unit ≤ o + m.depth * m.unit =
    omega (arith, add-mul (o / m.unit) m.depth m.unit, div-mul-le_self o m.unit) in
    let step : s * stripe_length m ≤ ((o / m.unit + m.depth) * groups m) * (data_units m * m.unit) =
    mul-le-mul_right (data_units m * m.unit) (stripe_low m p o c below) in
    let turn : ((o / m.unit + m.depth) * groups m) * (data_units m * m.unit)
    ≡ ((o / m.unit + m.depth) * m.unit) * (groups m * data_units m) =
    ap (λ x. (o / m.unit + m.depth) * groups m * x) (mul_comm (data_units m) m.unit)
    ∙ mul-mul-mul_comm (o / m.unit + m.depth) (groups m) m.unit (data_units m) in
    let round : m.depth * m.unit ≤ 1_099_511_627_776 = mul-le m.depth m.unit 1_048_576 1_048_576 c.short_depth c.short_unit in
    omega (
      arith,
      step,
      turn,
      round,
      inside,
      mul-le ((o / m.unit + m.depth) * m.unit) (groups m * data_units m) (o + m.depth * m.unit) 1024 rows (few_data m c),
    )

-- the number of a byte fits 64 bits
pub byte_fits : (m : RawMap) (p o : ℕ) → IsChecked m → p < positions m → o < 1_099_511_627_776 → unit_at m p o < data_units m →
    byte_at m p o < 18_446_744_073_709_551_616
byte_fits m p o c below inside holds =
    let stripe : stripe_length m ≤ 64 * 1_048_576 =
    mul-le (data_units m) m.unit 64 1_048_576 (omega (arith, c.narrow)) c.short_unit in
    omega (
      arith,
      byte_low m p o c below inside,
      two_digits m.unit (data_units m) (unit_at m p o) (o % m.unit) holds (mod_below o m.unit c.some_unit),
      stripe,
    )
