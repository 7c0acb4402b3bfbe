-- The columns that a write changes in a unit: each is one of the range's bytes or of a touched column, and the
-- intervals don't meet.
use Rattle.std.proofs.Common.{◌≡◌, ℕ, ◌+◌, ◌-◌, ◌*◌, ◌/◌, ◌%◌, ◌<◌, ◌≤◌, true, List, [], ◌∷◌, ◌++◌, refl, sym, ap, ◌∙◌, arith}
use Rattle.std.proofs.Common.{inl, inr, mul-le-mul_right}
use Rattle.std.specs.Prelude.{◌⊎◌}
use Rattle.std.proofs.lemmas.Bool.{cases_Bool, cases_lt, lt-ltb, le-ltb, le-leb, lt-leb}
use Rattle.std.proofs.lemmas.Nat.{div-add-mod', div_below, mod_below, mod-mul-add}
use Rattle.data_map.specs.declared.check.RawMap.{RawMap}
use Rattle.data_map.specs.Check.{IsChecked}
use Rattle.data_map.specs.Inverse.{stripe_at, unit_at}
use Rattle.data_map.specs.Striping.{replicas, stripe_of, stripe_length, data_units}
use Rattle.data_map.proofs.Shape.{some_stripe}
use Rattle.stripe_plan.specs.declared.plan.Span.{Span}
use Rattle.stripe_plan.specs.declared.plan.Interval.{Interval}
use Rattle.stripe_plan.specs.Touched.{end_of, IsTouchedStripe, own, touches, unit_start, low, high, columns, columns_between}
use Rattle.stripe_plan.specs.Asks.{own_columns, changed}
use Rattle.stripe_plan.specs.Laws.{IsWithin}
use Rattle.stripe_plan.proofs.Covering.{multiples}
use Rattle.stripe_plan.proofs.WriteLaws.{within_unit}
use Rattle.plan_law.specs.Writes.{in_range, some_unit_touched, touches_cell, interval_start, interval_end}
use Rattle.plan_law.proofs.Payloads.{any_is, changed_low, changed_high}

-- each of a list
abbrev pub Every : {A : Type 0} → (A → Type 0) → List A → Type 0
Every P [] = Unit {0}
Every P (x ∷ xs) = P x × Every P xs

pub every_append : {A : Type 0} (P : A → Type 0) (xs ys : List A) → Every P xs → Every P ys → Every P (xs ++ ys)
every_append P [] ys h g = g
every_append P (x ∷ xs) ys h g = (h.0, every_append P xs ys h.1 g)

-- ---- the intervals

-- the interval's columns are the list's, and it is where they are found
abbrev pub IsPart : List Interval → Interval → Type 0
IsPart is i = (b : ℕ) → i.first ≤ b → b < i.end → IsWithin b is × (interval_start b is ≡ i.first) × (interval_end b is ≡ i.end)

one_part : (i : Interval) → Every (IsPart (i ∷ [])) (i ∷ [])
unfolding interval_start interval_end
one_part i = (λ b le lt. (inl (le, lt), rw (lt-ltb b i.end lt) refl, rw (lt-ltb b i.end lt) refl), tt)

two_parts : (e f u : ℕ) → e ≤ f → Every (IsPart (record { first = 0; end = e } ∷ record { first = f; end = u } ∷ []))
    (record { first = 0; end = e } ∷ record { first = f; end = u } ∷ [])
unfolding interval_start interval_end
two_parts e f u le = (
  λ b from to. (inl (from, to), rw (lt-ltb b e to) refl, rw (lt-ltb b e to) refl),
  (
    λ b from to. (
      inr (inl (from, to)),
      rw (le-ltb b e (omega (arith, le, from)), lt-ltb b u to) refl,
      rw (le-ltb b e (omega (arith, le, from)), lt-ltb b u to) refl,
    ),
    tt,
  ),
)

between_parts : (u low high : ℕ) → Every (IsPart (columns_between u low high)) (columns_between u low high)
unfolding columns_between
between_parts u low high = elim (cases_lt (high - low) u) [
  | inl short ↦ elim (cases_lt (low % u) ((high - 1) % u + 1)) [
    | inl lt ↦ rw (lt-leb u (high - low) short, lt-ltb (low % u) ((high - 1) % u + 1) lt)
        (one_part (record { first = low % u; end = (high - 1) % u + 1 }))
    | inr le ↦ rw (lt-leb u (high - low) short, le-ltb (low % u) ((high - 1) % u + 1) le)
        (two_parts ((high - 1) % u + 1) (low % u) u le)
  ]
  | inr long ↦ rw (le-leb u (high - low) long) (one_part (record { first = 0; end = u }))
]

pub changed_parts : (m : RawMap) (r : Span) (s c : ℕ) → Every (IsPart (changed m r s c)) (changed m r s c)
unfolding changed own_columns columns
changed_parts m r s c = elim (cases_lt c (data_units m)) [
  | inl low ↦ elim (cases_Bool (touches m r s c)) [
    | inl t ↦ rw (lt-ltb c (data_units m) low, t) (one_part (own m r s c))
    | inr f ↦ rw (lt-ltb c (data_units m) low, f) tt
  ]
  | inr past ↦ rw (le-ltb c (data_units m) past) (between_parts m.unit (low m r s) (high m r s))
]

-- what a column's interval is, by its first column
pub of_part : (is all : List Interval) (b : ℕ) → Every (IsPart all) is → IsWithin b is →
    (interval_start b all ≤ b) × (b < interval_end b all) × IsWithin (interval_start b all) all ×
    (interval_end b all ≡ interval_end (interval_start b all) all)
of_part [] all b h w = absurd w
of_part (i ∷ is) all b h (inl x) =
    let p = h.0 b x.0 x.1 in
    let q = h.0 i.first (omega arith) (omega (arith, x.0, x.1)) in
    (omega (arith, p.1, x.0), omega (arith, p.2, x.1), rw p.1 q.0, p.2 ∙ sym q.2 ∙ ap (λ y. interval_end y all) (sym p.1))
of_part (i ∷ is) all b h (inr x) = of_part is all b h.1 x

-- ---- each is one of the range's

-- a byte between low and high has this column
abbrev Meets : (u low high b : ℕ) → Type 0
Meets u low high b = (x : ℕ) × (low ≤ x) × (x < high) × (x % u ≡ b)

next : (q u : ℕ) → (q + 1) * u ≡ q * u + u
next q u = omega arith

meets : (u low high b : ℕ) → 0 < u → low < high → IsWithin b (columns_between u low high) → Meets u low high b
unfolding columns_between
meets u low high b some lt w =
    let la = div-add-mod' low u in
    let hb = div-add-mod' (high - 1) u in
    let al = mod_below low u some in
    let el = mod_below (high - 1) u some in
    let ap = multiples (low / u) ((high - 1) / u) u in
    let bl = within_unit u low high b some w in
    let n = next (low / u) u in
    elim (cases_lt (high - low) u) [
      | inl short ↦ elim (cases_lt (low % u) ((high - 1) % u + 1)) [
        | inl inside ↦
            let t = single (low % u) ((high - 1) % u + 1)
            (rw (lt-leb u (high - low) short, lt-ltb (low % u) ((high - 1) % u + 1) inside) at w) in (
              low / u * u + b,
              omega (arith, la, t.0),
              elim ap [
                | inl s ↦ omega (arith, s, hb, t.1, lt)
                | inr (inl s) ↦
                    omega (arith, s, hb, t.1, lt)
                | inr (inr s) ↦ absurd (omega (arith, s, la, hb, al, el, lt))
              ],
              mod-mul-add (low / u) u b bl,
            )
        | inr round ↦ elim (double ((high - 1) % u + 1) (low % u)
            (rw (lt-leb u (high - low) short, le-ltb (low % u) ((high - 1) % u + 1) round) at w)) [
              | inl first ↦ (
                (high - 1) / u * u + b,
                elim ap [
                  | inl s ↦ absurd (omega (arith, s, la, hb, round, lt))
                  | inr (inl s) ↦
                      omega (arith, s, la, al)
                  | inr (inr s) ↦ absurd (omega (arith, s, la, hb, al, el, lt))
                ],
                omega (arith, hb, first, lt),
                mod-mul-add ((high - 1) / u) u b bl,
              )
              | inr second ↦ (
                low / u * u + b,
                omega (arith, la, second),
                elim ap [
                  | inl s ↦ absurd (omega (arith, s, la, hb, round, lt))
                  | inr (inl s) ↦ omega (arith, s, hb, bl, lt)
                  | inr (inr s) ↦
                      absurd (omega (arith, s, la, hb, al, el, lt))
                ],
                mod-mul-add (low / u) u b bl,
              )
            ]
      ]
      | inr long ↦ elim (cases_lt b (low % u)) [
        | inl before ↦ (
          (low / u + 1) * u + b,
          omega (arith, n, la, al),
          omega (arith, n, la, before, long),
          mod-mul-add
              (low / u + 1) u b bl,
        )
        | inr from ↦ (low / u * u + b, omega (arith, la, from), omega (arith, la, bl, from, long), mod-mul-add (low / u) u b bl)
      ]
    ]
  where
    single : (f e : ℕ) → IsWithin b (record { first = f; end = e } ∷ []) → (f ≤ b) × (b < e)
    single f e (inl x) = x
    single f e (inr x) = absurd x

    double : (e f : ℕ) → IsWithin b (record { first = 0; end = e } ∷ record { first = f; end = u } ∷ []) → (b < e) ⊎ (f ≤ b)
    double e f (inl x) = inl x.1
    double e f (inr (inl x)) = inr x.0
    double e f (inr (inr x)) = absurd x

pub in_is : (r : Span) (p : ℕ) → r.offset ≤ p → p < end_of r → in_range r p ≡ true
in_is r p from to = rw (le-leb r.offset p from, lt-ltb p (end_of r) to) refl

-- a touched stripe has bytes of the range
stripe_some : (m : RawMap) (r : Span) (s : ℕ) → IsChecked m → 0 < r.length → IsTouchedStripe m r s → low m r s < high m r s
stripe_some m r s c some touched =
    let l : ℕ = stripe_length m in
    let first = div-add-mod' r.offset (stripe_length m) in
    let last = div-add-mod' (end_of r - 1) (stripe_length m) in
    let rest = mod_below r.offset (stripe_length m) (some_stripe m c) in
    let up : stripe_of m r.offset * stripe_length m ≤ s * stripe_length m = mul-le-mul_right (stripe_length m) touched.0 in
    let down : s * stripe_length m ≤ stripe_of m (end_of r - 1) * stripe_length m = mul-le-mul_right (stripe_length m) touched.1
    in
    let step : (s + 1) * stripe_length m ≡ s * stripe_length m + stripe_length m = next s (stripe_length m) in
    omega (arith, first, last, rest, up, down, step, some, some_stripe m c)

pub columns_any : (m : RawMap) (r : Span) (s b : ℕ) → IsChecked m → 0 < r.length → IsTouchedStripe m r s →
    IsWithin b (columns m r s) → some_unit_touched m r s b 0 (data_units m) ≡ true
unfolding columns
columns_any m r s b c some touched w =
    let met = meets m.unit (low m r s) (high m r s) b c.some_unit (stripe_some m r s c some touched) w in
    let x : ℕ = met.0 in
    let step : (s + 1) * stripe_length m ≡ s * stripe_length m + stripe_length m = next s (stripe_length m) in
    let inside : x < data_units m * m.unit = omega (arith, met.2, step) in
    let unit : x / m.unit < data_units m = div_below x m.unit (data_units m) c.some_unit inside in
    let whole : x / m.unit * m.unit + b ≡ x = omega (arith, div-add-mod' x m.unit, met.3) in
    let at : unit_start m s (x / m.unit) + b ≡ s * stripe_length m + x = omega (arith, whole) in
    any_is m r s b 0 (data_units m) (x / m.unit) (omega arith) (omega (arith, unit))
    (rw at (in_is r (s * stripe_length m + x) (omega (arith, met.1)) (omega (arith, met.1, met.2))))

-- a column of the range's own
pub own_range : (m : RawMap) (r : Span) (s c b : ℕ) → IsWithin b (own_columns m r s c) → in_range r (unit_start m s c + b) ≡ true
unfolding own_columns own
own_range m r s c b w = elim (cases_lt c (data_units m)) [
  | inl low ↦ elim (cases_Bool (touches m r s c)) [
    | inl t ↦ one (rw (lt-ltb c (data_units m) low, t) at w)
    | inr f ↦ absurd (rw (lt-ltb c (data_units m) low, f) at w)
  ]
  | inr past ↦ absurd (rw (le-ltb c (data_units m) past) at w)
]
  where
    one : IsWithin b (own m r s c ∷ []) → in_range r (unit_start m s c + b) ≡ true
    one (inl x) = in_is r (unit_start m s c + b) (omega (arith, x.0)) (omega (arith, x.1))
    one (inr x) = absurd x

-- and back: the range's byte is in its own column
pub range_own : (m : RawMap) (r : Span) (s c b : ℕ) → c < data_units m → b < m.unit → r.offset ≤ unit_start m s c + b →
    unit_start m s c + b < end_of r → IsWithin b (own_columns m r s c)
unfolding own_columns own touches
range_own m r s c b low bl from to = rw (
  lt-ltb c (data_units m) low,
  lt-ltb (own m r s c).first (own m r s c).end
      (omega (arith, from, to, bl)),
) (inl (omega (arith, from), omega (arith, to, bl)))

-- so is each place of a touched stripe
pub changed_is : (m : RawMap) (r : Span) (s c b k z : ℕ) → IsChecked m → 0 < r.length → IsTouchedStripe m r s →
    stripe_at m (k / replicas m) z ≡ s → unit_at m (k / replicas m) z ≡ c → z % m.unit ≡ b → IsWithin b (changed m r s c) →
    touches_cell m r k z ≡ true
unfolding changed
changed_is m r s c b k z ch some touched is_s is_c is_b w = elim (cases_lt c (data_units m)) [
  | inl below ↦
      changed_low m r k z (omega (arith, is_c, below))
      ∙ ap (in_range r) (ap (λ x. unit_start m x (unit_at m (k / replicas m) z) + z % m.unit) is_s
      ∙ ap (λ x. unit_start m s x + z % m.unit) is_c ∙ ap (λ x. unit_start m s c + x) is_b)
      ∙ own_range m r s c b (rw (lt-ltb c (data_units m) below) at w)
  | inr past ↦
      changed_high m r k z (omega (arith, is_c, past))
      ∙ ap (λ x. some_unit_touched m r x (z % m.unit) 0 (data_units m)) is_s
      ∙ ap (λ x. some_unit_touched m r s x 0 (data_units m)) is_b
      ∙ columns_any m r s b ch some touched (rw (le-ltb c (data_units m) past) at w)
]
