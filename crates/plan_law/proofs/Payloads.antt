-- What a write makes for a cell that it changes is the cell's word of the new data.
use Rattle.std.proofs.Common.{◌≡◌, ℕ, zero, suc, ◌+◌, ◌-◌, ◌*◌, ◌/◌, ◌%◌, ◌<◌, ◌≤◌, true, List, length, refl, sym, ap, ◌∙◌, arith}
use Rattle.std.proofs.Common.{inl, inr}
use Rattle.std.proofs.lemmas.Bool.{cases_Bool, cases_eq, cases_lt, lt-ltb, le-ltb, le-leb, lt-leb}
use Rattle.std.proofs.lemmas.Nat.{mod_below}
use Rattle.file_log.specs.Judge.{byte_for}
use Rattle.file_log.proofs.Settled.{byte_before, byte_inside, byte_behind}
use Rattle.data_map.specs.declared.check.RawMap.{RawMap}
use Rattle.data_map.specs.Check.{IsChecked}
use Rattle.data_map.specs.Striping.{replicas, stripe_of, column_of, group_width, data_units, parities, position_of, offset_of}
use Rattle.data_map.specs.Inverse.{stripe_at, unit_at, byte_at}
use Rattle.data_map.proofs.Striping.{position_in_range, unit_found, byte_stripe, byte_column}
use Rattle.data_map.proofs.Shape.{replicas_inside}
use Rattle.std.proofs.lemmas.Nat.{div-mul-add, mod-mul-add}
use Rattle.stripe_plan.specs.declared.plan.Span.{Span}
use Rattle.stripe_plan.specs.declared.plan.Column.{Column}
use Rattle.stripe_plan.specs.Touched.{end_of, unit_start, columns, IsTouchedStripe}
use Rattle.stripe_plan.specs.Words.{word_at}
use Rattle.stripe_plan.specs.Laws.{word_of, over, IsWithin}
use Rattle.stripe_plan.proofs.Columning.{word_is}
use Rattle.stripe_plan.proofs.Covering.{column_touched}
use Rattle.stripe_plan.proofs.ReadLaws.{stripe_touched}
use Rattle.stripe_plan.proofs.WriteLaws.{new_some, parity_is, over_is}
use Rattle.fence_law.specs.Columns.{overlaid}
use Rattle.plan_law.specs.FileLayout.{column_of_cell, word_in}
use Rattle.plan_law.specs.Writes.{in_range, some_unit_touched, touches_cell, word_after}
use Rattle.plan_law.specs.Got.{Fits}
use Rattle.plan_law.specs.Sending.{PayloadsAreRight}
use Rattle.plan_law.proofs.Cells.{unit_inside, cell_coded}
use Rattle.plan_law.proofs.Codes.{words_same}
use Rattle.plan_law.proofs.Parities.{FitsAt, parity_right}

-- ---- the new data

pub range_means : (r : Span) (l : ℕ) → in_range r l ≡ true → (r.offset ≤ l) × (l < end_of r)
range_means r l e = elim (cases_lt l r.offset) [
  | inl before ↦ absurd (cc (rw (lt-leb r.offset l before) at e))
  | inr from ↦ elim (cases_lt l (end_of r)) [
    | inl to ↦ (from, to)
    | inr past ↦ absurd (cc (rw (le-leb r.offset l from, le-ltb l (end_of r) past) at e))
  ]
]

-- the machine's words for the new data and the plan's are one
pub overlaid_over : (r : Span) (bytes : List ℕ) (d : ℕ → ℕ) (l : ℕ) → length bytes ≡ r.length →
    overlaid (byte_for r.offset bytes) d l ≡ over r bytes d l
overlaid_over r bytes d l long = elim (cases_lt l r.offset) [
  | inl before ↦ rw (byte_before r.offset bytes l before, lt-leb r.offset l before) refl
  | inr from ↦ elim (cases_lt l (end_of r)) [
    | inl to ↦ rw (
      byte_inside r.offset bytes l from (omega (arith, long, to, from)),
      le-leb r.offset l from,
      lt-ltb l
          (end_of r) to,
    ) refl
    | inr past ↦ rw (
      byte_behind r.offset bytes l from (omega (arith, long, past)),
      le-leb r.offset l from,
      le-ltb l
          (end_of r) past,
    ) refl
  ]
]

pub after_is : (m : RawMap) (r : Span) (bytes : List ℕ) (k z : ℕ) (d : ℕ → ℕ) → length bytes ≡ r.length →
    word_after m r bytes k z d ≡ word_in m k z (over r bytes d)
after_is m r bytes k z d long =
    words_same m (overlaid (byte_for r.offset bytes) d) (over r bytes d) (stripe_at m (k / replicas m) z) (z % m.unit)
    (unit_at m (k / replicas m) z)
    (λ u low. overlaid_over r bytes d (unit_start m (stripe_at m (k / replicas m) z) u + z % m.unit) long)

-- ---- touched columns

-- a unit of a touched column has a byte of the range
pub any_means : (m : RawMap) (r : Span) (s b c n : ℕ) → some_unit_touched m r s b c n ≡ true →
    (k : ℕ) × (c ≤ k) × (k < c + n) × (in_range r (unit_start m s k + b) ≡ true)
unfolding some_unit_touched
any_means m r s b c zero e = absurd (cc e)
any_means m r s b c (suc n) e = elim (cases_Bool (in_range r (unit_start m s c + b))) [
  | inl t ↦ (c, omega arith, omega arith, t)
  | inr f ↦ let rest = any_means m r s b (c + 1) n (rw f at e) in (rest.0, omega (arith, rest.1), omega (arith, rest.2), rest.3)
]

pub any_is : (m : RawMap) (r : Span) (s b c n k : ℕ) → c ≤ k → k < c + n → in_range r (unit_start m s k + b) ≡ true →
    some_unit_touched m r s b c n ≡ true
unfolding some_unit_touched
any_is m r s b c zero k le lt e = absurd (omega (arith, le, lt))
any_is m r s b c (suc n) k le lt e = elim (cases_Bool (in_range r (unit_start m s c + b))) [
  | inl t ↦ rw t refl
  | inr f ↦ elim (cases_eq c k) [
    | inl same ↦ absurd (cc (sym e ∙ ap (λ j. in_range r (unit_start m s j + b)) (sym same) ∙ f))
    | inr other ↦ rw f (any_is m r s b (c + 1) n k (omega (arith, le, other)) (omega (arith, lt)) e)
  ]
]

-- so the stripe is touched, and the column in it
pub any_touched : (m : RawMap) (r : Span) (s b : ℕ) → IsChecked m → b < m.unit →
    some_unit_touched m r s b 0 (data_units m) ≡ true → IsTouchedStripe m r s × IsWithin b (columns m r s) × (0 < r.length)
any_touched m r s b c bl e =
    let some = any_means m r s b 0 (data_units m) e in
    let low : some.0 < data_units m = omega (arith, some.2) in
    let inside = range_means r (unit_start m s some.0 + b) some.3 in
    let stripe : stripe_of m (unit_start m s some.0 + b) ≡ s = byte_stripe m s some.0 b low bl in
    let column : column_of m (unit_start m s some.0 + b) ≡ b = byte_column m s some.0 b low bl in (
      rw stripe at (stripe_touched m r (unit_start m s some.0 + b) c inside.0 inside.1),
      rw (stripe, column) at (column_touched m r (unit_start m s some.0 + b) c inside.0 inside.1),
      omega (arith, inside.0, inside.1),
    )

-- ---- changed cells

pub changed_low : (m : RawMap) (r : Span) (k z : ℕ) → unit_at m (k / replicas m) z < data_units m →
    touches_cell m r k z ≡ in_range r (byte_at m (k / replicas m) z)
changed_low m r k z low = rw (lt-ltb (unit_at m (k / replicas m) z) (data_units m) low) refl

pub changed_high : (m : RawMap) (r : Span) (k z : ℕ) → data_units m ≤ unit_at m (k / replicas m) z →
    touches_cell m r k z ≡ some_unit_touched m r (stripe_at m (k / replicas m) z) (z % m.unit) 0 (data_units m)
changed_high m r k z past = rw (le-ltb (unit_at m (k / replicas m) z) (data_units m) past) refl

-- ---- what was got

-- of a column with parity, by its units
pub fits_at : (m : RawMap) (got : List Column) (d : ℕ → ℕ) (s b : ℕ) → IsChecked m → 0 < parities m → b < m.unit →
    Fits m got (s * m.unit + b) d → FitsAt m got d s b
fits_at m got d s b c some bl fits = λ u wide is_got.
    let p : ℕ = position_of m s u in
    let z : ℕ = offset_of m s b in
    let found = unit_found m s u b c wide bl in
    let here : p * replicas m / replicas m ≡ p =
    ap (λ x. x / replicas m) (let y : p * replicas m ≡ p * replicas m + 0 = omega arith in y)
    ∙ div-mul-add p (replicas m) 0 (omega arith) in
    let column : z % m.unit ≡ b = mod-mul-add _ m.unit b bl in
    let below : p * replicas m < m.comps = omega (arith, replicas_inside m p c (position_in_range m s u c wide)) in
    let col : column_of_cell m (p * replicas m) z ≡ s * m.unit + b =
    cell_coded m (p * replicas m) z some ∙ ap (λ x. stripe_at m x z * m.unit + z % m.unit) here
    ∙ ap (λ x. x * m.unit + z % m.unit) found.0 ∙ ap (λ x. s * m.unit + x) column in
    let fact = rw here at (fits (p * replicas m) z below col) in
    fact is_got ∙ ap (λ x. word_of m d x (z % m.unit) (unit_at m p z)) found.0 ∙ ap (λ x. word_of m d s x (unit_at m p z)) column
    ∙ ap (λ x. word_of m d s b x) found.1

-- ---- the law

pub payloads_are_right : PayloadsAreRight
unfolding word_at
payloads_are_right m r bytes got out may k z d below hit db fits =
    let c = may.checked in
    let p : ℕ = k / replicas m in
    let s : ℕ = stripe_at m p z in
    let b : ℕ = z % m.unit in
    let u : ℕ = unit_at m p z in
    let bl : b < m.unit = mod_below z m.unit c.some_unit in
    elim (cases_lt u (data_units m)) [
      | inl low ↦
          let inside = range_means r (byte_at m p z) (rw (lt-ltb u (data_units m) low) at hit) in
          rw (lt-ltb u (data_units m) low, new_some m r bytes s b u bl inside.0 inside.1) (
          sym (over_is r bytes d (unit_start m s u + b) inside.0 inside.1)
          ∙ sym (word_is m (over r bytes d) s b u low) ∙ sym (after_is m r bytes k z d may.long))
      | inr past ↦
          let wide : u < group_width m = unit_inside m p z c in
          let some : 0 < parities m = omega (arith, past, wide) in
          let touched = any_touched m r s b c bl (rw (le-ltb u (data_units m) past) at hit) in
          let up : data_units m + (u - data_units m) ≡ u = omega (arith, past) in
          rw (le-ltb u (data_units m) past) (
          parity_right m r bytes got out d s b (u - data_units m) c db touched.2 may.can (may.fetched some)
          (fits_at m got d s b c some bl (rw (cell_coded m k z some) at fits)) touched.0 bl (omega (arith, up, wide)) touched.1
          ∙ sym (parity_is m (over r bytes d) s b u c past wide) ∙ sym (after_is m r bytes k z d may.long))
    ]
