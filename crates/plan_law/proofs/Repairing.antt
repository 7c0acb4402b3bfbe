-- The end of a repair: columns of which each position has a replica that isn't lost, and the bytes of the first such.
use Rattle.std.proofs.Common.{◌≡◌, ℕ, zero, suc, ◌+◌, ◌-◌, ◌*◌, ◌/◌, ◌%◌, ◌<◌, ◌≤◌, Bool, true, false, refl, sym, ap, ◌∙◌, arith}
use Rattle.std.proofs.Common.{inl, inr}
use Rattle.std.specs.Prelude.{nat_lt}
use Rattle.std.proofs.lemmas.Bool.{cases_Bool, cases_eq, lt-ltb}
use Rattle.std.proofs.lemmas.Nat.{div-add-mod', mod_below, div-mul-add, mod-mul-add}
use Rattle.osd_lists.proofs.Tests.{nat_less}
use Rattle.data_map.specs.declared.check.RawMap.{RawMap}
use Rattle.data_map.specs.Check.{IsChecked}
use Rattle.data_map.specs.Striping.{replicas, stripe_of, data_unit_of, column_of, group_width, position_of, offset_of}
use Rattle.data_map.specs.Striping.{place_of}
use Rattle.data_map.specs.Inverse.{stripe_at, byte_at}
use Rattle.data_map.proofs.Striping.{column_below, data_unit_below, position_below, position_in_range, unit_found, found_again}
use Rattle.data_map.proofs.Shape.{replicas_inside}
use Rattle.plan_law.specs.FileLayout.{column_at, column_of_cell, is_copy, word_in}
use Rattle.plan_law.specs.Standing.{some_stands, first_standing, standing_at, position_stands, units_stand, column_stands}
use Rattle.plan_law.specs.Standing.{standing_byte}
use Rattle.plan_law.specs.Guards.{RepairsStand, RepairsMayWrite}
use Rattle.plan_law.proofs.Cells.{with_parity, is_coded, is_plain, cell_coded, cell_plain}
use Rattle.plan_law.proofs.Codes.{word_local, copies_are, lies_copy}

-- ---- replicas

pub first_is : (lost : ℕ → Bool) (k n : ℕ) → some_stands lost k n ≡ true →
    (k ≤ first_standing lost k n) × (first_standing lost k n < k + n) × (lost (first_standing lost k n) ≡ false)
unfolding some_stands first_standing
first_is lost k zero e = absurd (cc e)
first_is lost k (suc n) e = elim (cases_Bool (lost k)) [
  | inl t ↦ let rest = first_is lost (k + 1) n (rw t at e) in rw t (omega (arith, rest.0), omega (arith, rest.1), rest.2)
  | inr f ↦ rw f (omega arith, omega arith, f)
]

none_stand : (lost : ℕ → Bool) (k n j : ℕ) → some_stands lost k n ≡ false → k ≤ j → j < k + n → lost j ≡ true
unfolding some_stands
none_stand lost k zero j e le lt = absurd (omega (arith, le, lt))
none_stand lost k (suc n) j e le lt = elim (cases_Bool (lost k)) [
  | inl t ↦ elim (cases_eq k j) [
    | inl same ↦ ap lost (sym same) ∙ t
    | inr other ↦ none_stand lost (k + 1) n j (rw t at e) (omega (arith, le, other)) (omega (arith, lt))
  ]
  | inr f ↦ absurd (cc (rw f at e))
]

pub each_stands : (m : RawMap) (lost : ℕ → Bool) (s c n k : ℕ) → units_stand m lost s c n ≡ true → c ≤ k → k < c + n →
    position_stands m lost (position_of m s k) ≡ true
unfolding units_stand
each_stands m lost s c zero k e le lt = absurd (omega (arith, le, lt))
each_stands m lost s c (suc n) k e le lt = elim (cases_Bool (position_stands m lost (position_of m s c))) [
  | inl t ↦ elim (cases_eq c k) [
    | inl same ↦ ap (λ j. position_stands m lost (position_of m s j)) (sym same) ∙ t
    | inr other ↦ each_stands m lost s (c + 1) n k (rw t at e) (omega (arith, le, other)) (omega (arith, lt))
  ]
  | inr f ↦ absurd (cc (rw f at e))
]

one_fell : (m : RawMap) (lost : ℕ → Bool) (s c n : ℕ) → units_stand m lost s c n ≡ false →
    (k : ℕ) × (c ≤ k) × (k < c + n) × (position_stands m lost (position_of m s k) ≡ false)
unfolding units_stand
one_fell m lost s c zero e = absurd (cc e)
one_fell m lost s c (suc n) e = elim (cases_Bool (position_stands m lost (position_of m s c))) [
  | inl t ↦ let rest = one_fell m lost s (c + 1) n (rw t at e) in (rest.0, omega (arith, rest.1), omega (arith, rest.2), rest.3)
  | inr f ↦ (c, omega arith, omega arith, f)
]

first_of : (m : RawMap) (p : ℕ) → p * replicas m / replicas m ≡ p
first_of m p = ap (λ x. x / replicas m) (let y : p * replicas m ≡ p * replicas m + 0 = omega arith in y)
    ∙ div-mul-add p (replicas m) 0 (omega arith)

-- all components of a position that fell are lost
all_lost : (m : RawMap) (lost : ℕ → Bool) (p f : ℕ) → position_stands m lost p ≡ false → f / replicas m ≡ p → lost f ≡ true
all_lost m lost p f e at =
    let whole = div-add-mod' f (replicas m) in
    let rest : f % replicas m < replicas m = mod_below f (replicas m) (omega arith) in
    let start : f / replicas m * replicas m ≡ p * replicas m = ap (λ x. x * replicas m) at in
    none_stand lost (p * replicas m) (replicas m) f e (omega (arith, whole, start)) (omega (arith, whole, rest, start))

-- ---- a column that isn't done is short

-- a position of the column, all of whose components are lost
abbrev Fell : RawMap → (ℕ → Bool) → (x : ℕ) → Type 0
Fell m lost x = (k z : ℕ) × (k < m.comps) × (column_of_cell m k z ≡ x) × (position_stands m lost (k / replicas m) ≡ false)

fell : (m : RawMap) (lost : ℕ → Bool) (x : ℕ) → IsChecked m → column_stands m lost x ≡ false → Fell m lost x
fell m lost x c e = elim (with_parity m) [
  | inr none ↦
      let p : ℕ = (place_of m x).position in
      let z : ℕ = (place_of m x).offset in
      let here : p * replicas m / replicas m ≡ p = first_of m p in
      let lost_here : position_stands m lost p ≡ false = rw (is_plain m none) at e in (
        p * replicas m,
        z,
        omega (arith, replicas_inside m p c (position_below m x c)),
        cell_plain m (p * replicas m) z none
            ∙ ap (λ q. byte_at m q z) here ∙ found_again m x c,
        ap (position_stands m lost) here ∙ lost_here,
      )
  | inl some ↦
      let s : ℕ = x / m.unit in
      let b : ℕ = x % m.unit in
      let bl : b < m.unit = mod_below x m.unit c.some_unit in
      let down = one_fell m lost s 0 (group_width m) (rw (is_coded m some) at e) in
      let u : ℕ = down.0 in
      let wide : u < group_width m = omega (arith, down.2) in
      let p : ℕ = position_of m s u in
      let z : ℕ = offset_of m s b in
      let here : p * replicas m / replicas m ≡ p = first_of m p in
      let found = unit_found m s u b c wide bl in
      let column : z % m.unit ≡ b = mod-mul-add _ m.unit b bl in (
        p * replicas m,
        z,
        omega (arith, replicas_inside m p c (position_in_range m s u c wide)),
        cell_coded m (p * replicas m) z some ∙ ap (λ q. stripe_at m q z * m.unit + z % m.unit) here
            ∙ ap (λ q. q * m.unit + z % m.unit) found.0 ∙ ap (λ q. s * m.unit + q) column ∙ div-add-mod' x m.unit,
        ap (position_stands m lost) here ∙ down.3,
      )
]

-- ---- a byte of a column that is done has a copy

position_done : (m : RawMap) (lost : ℕ → Bool) (q : ℕ) → IsChecked m → column_stands m lost (column_at m q) ≡ true →
    position_stands m lost (place_of m q).position ≡ true
position_done m lost q c e = elim (with_parity m) [
  | inr none ↦ rw (is_plain m none) at e
  | inl some ↦
      let s : ℕ = stripe_of m q in
      let b : ℕ = column_of m q in
      let bl : b < m.unit = column_below m q c in
      let all : units_stand m lost ((s * m.unit + b) / m.unit) 0 (group_width m) ≡ true = rw (is_coded m some) at e in
      let here : units_stand m lost s 0 (group_width m) ≡ true = ap (λ x. units_stand m lost x 0 (group_width m))
      (sym (div-mul-add s m.unit b bl)) ∙ all in
      each_stands m lost s 0 (group_width m) (data_unit_of m q) here (omega arith) (omega (arith, data_unit_below m q c))
]

copy_stands : (m : RawMap) (lost : ℕ → Bool) (q : ℕ) → IsChecked m → column_stands m lost (column_at m q) ≡ true →
    (is_copy m (standing_at m lost q) (place_of m q).offset q ≡ true) × (lost (standing_at m lost q) ≡ false)
copy_stands m lost q c e =
    let p : ℕ = (place_of m q).position in
    let first = first_is lost (p * replicas m) (replicas m) (position_done m lost q c e) in
    let k : ℕ = standing_at m lost q in
    let at_k : k ≡ p * replicas m + (k - p * replicas m) = omega (arith, first.0) in
    let here : k / replicas m ≡ p = ap (λ x. x / replicas m) at_k ∙ div-mul-add p (replicas m) (k - p * replicas m)
    (omega (arith, first.0, first.1)) in
    (lies_copy m k (place_of m q).offset q (sym here, refl), first.2)

-- the byte is that copy's
byte_is : (m : RawMap) (lost : ℕ → Bool) (cell : ℕ → ℕ → ℕ) (q : ℕ) → IsChecked m →
    column_stands m lost (column_at m q) ≡ true →
    standing_byte m lost cell q ≡ cell (standing_at m lost q) (place_of m q).offset
byte_is m lost cell q c e = rw (position_done m lost q c e) refl

-- ---- the law

-- the words of a column by what stands there
stand_again : (m : RawMap) (lost : ℕ → Bool) (cell : ℕ → ℕ → ℕ) (x : ℕ) (d : ℕ → ℕ) → IsChecked m →
    column_stands m lost x ≡ true →
    ((k z : ℕ) → nat_lt k m.comps ≡ true → column_of_cell m k z ≡ x → lost k ≡ false → cell k z ≡ word_in m k z d) →
    (k z : ℕ) → nat_lt k m.comps ≡ true → column_of_cell m k z ≡ x → lost k ≡ false →
    cell k z ≡ word_in m k z (standing_byte m lost cell)
stand_again m lost cell x d c done stand k z below col there =
    stand k z below col there
    ∙ word_local m k z d (standing_byte m lost cell) c (λ q at.
    let here : column_at m q ≡ x = at ∙ col in
    let copy = copy_stands m lost q c (ap (column_stands m lost) here ∙ done) in
    let are = copies_are m (standing_at m lost q) (place_of m q).offset q c copy.0 in
    sym (are.2 d) ∙ sym (stand (standing_at m lost q) (place_of m q).offset are.0 (are.1 ∙ here) copy.1)
    ∙ sym (byte_is m lost cell q c (ap (column_stands m lost) here ∙ done)))

pub repairs_stand : RepairsStand
repairs_stand m tag b c is = record {
  left = λ x e.
      let down = fell m b.lost x c e in
      rw is (
        down.0,
        down.1,
        lt-ltb down.0 m.comps down.2,
        down.3,
        λ f y cell col at. all_lost m b.lost
            (down.0 / replicas m) f down.4 at,
      );
  copies = λ q e.
      let done : column_stands m b.lost (column_at m q) ≡ true = rw is at e in
      let copy = copy_stands m b.lost q c done in
      rw is (standing_at m b.lost q, (place_of m q).offset, copy.0, copy.1, byte_is m b.lost b.cell q c done);
  right = λ x d done stand. rw is (stand_again m b.lost b.cell x d c done (rw is at stand));
}

pub repairs_may_write : RepairsMayWrite
repairs_may_write m tag b lost c is stay k z q done at =
    let here : column_at m q ≡ column_of_cell m k z = rw is at at in
    let stands : column_stands m lost (column_at m q) ≡ true = ap (column_stands m lost) here ∙ done in
    let copy = copy_stands m lost q c stands in
    let are = copies_are m (standing_at m lost q) (place_of m q).offset q c copy.0 in
    let kept : b.gone (standing_at m lost q) ≡ false =
    stay (standing_at m lost q) (nat_less (standing_at m lost q) m.comps are.0) copy.1 in
    rw is (standing_at m lost q, (place_of m q).offset, copy.0, kept, byte_is m lost b.cell q c stands)
