-- A read's answer, unit by unit.
use Rattle.std.proofs.Common.{◌≡◌, ℕ, ◌+◌, ◌-◌, ◌*◌, ◌<◌, ◌≤◌, true, List, [], ◌++◌, map, refl, sym, ap, ◌∙◌, arith, inl, inr, mul-le-mul_right}
use Rattle.std.specs.Prelude.{min, max, Option, Some, None, Ok}
use Rattle.std.specs.List.{range_with_len}
use Rattle.std.proofs.lemmas.Bool.{cases_lt, lt-ltb}
use Rattle.std.proofs.lemmas.Nat.{div-add-mod', mod_below}
use Rattle.osd_lists.proofs.Slices.{split_range}
use Rattle.data_map.specs.declared.check.RawMap.{RawMap}
use Rattle.data_map.specs.Check.{IsChecked}
use Rattle.data_map.specs.Striping.{stripe_of, stripe_length, data_units, data_unit_of, column_of}
use Rattle.data_map.proofs.Shape.{some_stripe}
use Rattle.data_map.proofs.Striping.{byte_stripe, byte_unit, byte_column}
use Rattle.stripe_plan.specs.declared.plan.Span.{Span}
use Rattle.stripe_plan.specs.declared.plan.Interval.{Interval}
use Rattle.stripe_plan.specs.declared.plan.Column.{Column}
use Rattle.stripe_plan.specs.declared.plan.Part.{Part}
use Rattle.stripe_plan.specs.Touched.{end_of, stripes, unit_start, own, touches, clamped}
use Rattle.stripe_plan.specs.Lost.{unreadable}
use Rattle.stripe_plan.specs.Words.{answer_in, answer_at, answered_in, answered_between, answered}
use Rattle.stripe_plan.specs.Plans.{columns_of, unless_lost, assemble, Gives}
use Rattle.stripe_plan.proofs.StripeRows.{same_range, shifted}

-- ---- between two bytes

pub between_none : (m : RawMap) (got : List Column) (out : List ℕ) (a e : ℕ) → e ≤ a → answered_between m got out a e ≡ []
between_none m got out a e le = let z : e - a ≡ 0 = omega (arith, le) in rw z refl

pub between_split : (m : RawMap) (got : List Column) (out : List ℕ) (a k e : ℕ) → a ≤ k → k ≤ e →
    answered_between m got out a e ≡ answered_between m got out a k ++ answered_between m got out k e
between_split m got out a k e low high =
    let z : e - a ≡ k - a + (e - k) = omega (arith, low, high) in
    let y : a + (k - a) ≡ k = omega (arith, low) in
    ap (λ (n : ℕ). map (answer_at m got out) (range_with_len a n)) z ∙ split_range (answer_at m got out) a (k - a) (e - k)
    ∙ ap (λ (n : ℕ). answered_between m got out a k ++ map (answer_at m got out) (range_with_len n (e - k))) y

pub clamped_mono : (r : Span) (x y : ℕ) → x ≤ y → clamped r x ≤ clamped r y
clamped_mono r x y le = omega (arith, le)

pub unit_next : (m : RawMap) (s c : ℕ) → unit_start m s (c + 1) ≡ unit_start m s c + m.unit
unit_next m s c = let e : (c + 1) * m.unit ≡ c * m.unit + m.unit = omega arith in omega (arith, e)

pub unit_last : (m : RawMap) (s c : ℕ) → c ≤ data_units m → unit_start m s c ≤ (s + 1) * stripe_length m
unit_last m s c le =
    let next : (s + 1) * stripe_length m ≡ s * stripe_length m + stripe_length m = omega arith in
    omega (arith, next, mul-le-mul_right m.unit le)

pub unit_past : (m : RawMap) (s c : ℕ) → data_units m ≤ c → (s + 1) * stripe_length m ≤ unit_start m s c
unit_past m s c le =
    let next : (s + 1) * stripe_length m ≡ s * stripe_length m + stripe_length m = omega arith in
    omega (arith, next, mul-le-mul_right m.unit le)

-- ---- one unit

pub touches_is : (m : RawMap) (r : Span) (s c : ℕ) (i : Interval) → i ≡ own m r s c → i.first < i.end → touches m r s c ≡ true
unfolding touches
touches_is m r s c i is lt = rw is at (lt-ltb i.first i.end lt)

-- what is answered of a unit lies between its begin and the next one's
pub unit_piece : (m : RawMap) (r : Span) (got : List Column) (out : List ℕ) (s c : ℕ) (i : Interval) → c < data_units m →
    i ≡ own m r s c → i.first < i.end →
    answered_in m got out s c i ≡ answered_between m got out (clamped r (unit_start m s c)) (clamped r (unit_start m s (c + 1)))
unfolding own
unit_piece m r got out s c i low is lt =
    let start : ℕ = unit_start m s c in
    let next : unit_start m s (c + 1) ≡ start + m.unit = unit_next m s c in
    let first : i.first ≡ max r.offset start - start = ap (λ (j : Interval). j.first) is in
    let end : i.end ≡ min (end_of r) (start + m.unit) - start = ap (λ (j : Interval). j.end) is in
    let from : clamped r start ≡ start + i.first = omega (arith, first, end, lt) in
    let long : clamped r (unit_start m s (c + 1)) - clamped r start ≡ i.end - i.first = omega (arith, first, end, lt, next) in
    let inside : i.end ≤ m.unit = omega (arith, end) in
    same_range (answer_in m got out s c) (λ (b : ℕ). answer_at m got out (start + b)) i.first (i.end - i.first) (λ b le b_lt.
    let bl : b < m.unit = omega (arith, b_lt, le, inside, lt) in
    sym (ap (λ (x : ℕ). answer_in m got out x (data_unit_of m (start + b)) (column_of m (start + b))) (byte_stripe m s c b low bl)
    ∙ ap (λ (x : ℕ). answer_in m got out s x (column_of m (start + b))) (byte_unit m s c b low bl)
    ∙ ap (λ (x : ℕ). answer_in m got out s c x) (byte_column m s c b low bl)))
    ∙ sym (shifted (answer_at m got out) start i.first (i.end - i.first))
    ∙ ap (λ (n : ℕ). map (answer_at m got out) (range_with_len (start + i.first) n)) (sym long)
    ∙ ap (λ (a : ℕ). map (answer_at m got out) (range_with_len a (clamped r (unit_start m s (c + 1)) - clamped r start)))
    (sym from)

-- nothing, where the range has no byte in it
pub unit_none : (m : RawMap) (r : Span) (got : List Column) (out : List ℕ) (s c : ℕ) (i : Interval) → IsChecked m →
    i ≡ own m r s c → i.end ≤ i.first →
    answered_between m got out (clamped r (unit_start m s c)) (clamped r (unit_start m s (c + 1))) ≡ []
unfolding own
unit_none m r got out s c i ch is le =
    let start : ℕ = unit_start m s c in
    let first : i.first ≡ max r.offset start - start = ap (λ (j : Interval). j.first) is in
    let end : i.end ≡ min (end_of r) (start + m.unit) - start = ap (λ (j : Interval). j.end) is in
    between_none m got out (clamped r start) (clamped r (unit_start m s (c + 1)))
    (omega (arith, first, end, le, unit_next m s c, ch.some_unit))

-- ---- all stripes

pub clamp_first : (m : RawMap) (r : Span) (first : ℕ) → (0 < r.length → first ≡ stripe_of m r.offset) →
    clamped r (first * stripe_length m) ≡ r.offset
clamp_first m r first is = elim (cases_lt 0 r.length) [
  | inl some ↦ rw (is some) (omega (arith, div-add-mod' r.offset (stripe_length m)))
  | inr none ↦ omega (arith, none)
]

pub clamp_last : (m : RawMap) (r : Span) (end s : ℕ) → IsChecked m → (0 < r.length → end ≡ stripe_of m (end_of r - 1) + 1) →
    end ≤ s → clamped r (s * stripe_length m) ≡ end_of r
clamp_last m r end s ch is le = elim (cases_lt 0 r.length) [
  | inl some ↦
      let last = div-add-mod' (end_of r - 1) (stripe_length m) in
      let rest = mod_below (end_of r - 1) (stripe_length m) (some_stripe m ch) in
      let next : (stripe_of m (end_of r - 1) + 1) * stripe_length m ≡ stripe_of m
      (end_of r - 1) * stripe_length m + stripe_length m = omega arith in
      let up : (stripe_of m (end_of r - 1) + 1) * stripe_length m ≤ s * stripe_length m =
      mul-le-mul_right (stripe_length m) (omega (arith, is some, le)) in
      omega (arith, last, rest, next, up, some)
  | inr none ↦ omega (arith, none)
]

pub all_answered : (m : RawMap) (r : Span) (got : List Column) (out : List ℕ) →
    answered_between m got out r.offset (end_of r) ≡ answered m r got out
unfolding answered
all_answered m r got out = let e : end_of r - r.offset ≡ r.length = omega arith in rw e refl

-- ---- the call

pub not_lost : (lost : Option (List ℕ)) (x : Unit {0}) → Gives (unless_lost lost tt) (Ok x) → lost ≡ None
not_lost None x g = refl
not_lost (Some ps) x (inl e) = absurd (cc e)
not_lost (Some ps) x (inr e) = absurd (cc e)

pub assembled : (m : RawMap) (r : Span) (got : List Part) (out : List ℕ) (answer : List ℕ) →
    unreadable m r out (stripes m r) ≡ None → answer ≡ answered m r (columns_of m got) out →
    Gives (assemble m r got out) (Ok answer)
unfolding assemble
assembled m r got out answer can e = inr (rw (can, e) refl)
