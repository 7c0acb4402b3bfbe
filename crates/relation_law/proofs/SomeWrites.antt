-- A write of some bytes sends something, whatever its gather got, where no touched stripe lacks more positions than it has
-- parity: of the units that it changes, which are one of data and all of parity, one isn't out.
-- Towards `CallsGoOn` (`relation_law/specs/Steps.antt`).
use Rattle.std.proofs.Common.{◌≡◌, ◌⊎◌, ◌==◌, ◌<◌, ◌≤◌, ◌||◌, ℕ, zero, suc, ◌+◌, ◌*◌, Bool, true, false, List, [], length, refl, ap, subst, arith, inl, inr}
use Rattle.std.specs.Prelude.{filter, None, nat_le}
use Rattle.std.specs.List.{range_with_len}
use Rattle.std.proofs.lemmas.Bool.{cases_Bool, eq-eqb, le-leb, eqb-true}
use Rattle.std.proofs.lemmas.Bool.Decides.{nat_tests}
use Rattle.data_map.specs.declared.check.RawMap.{RawMap}
use Rattle.data_map.specs.Check.{IsChecked}
use Rattle.data_map.specs.Striping.{replicas, parities, group_width, data_units, stripe_of, data_unit_of, column_of, position_of, offset_of}
use Rattle.data_map.proofs.Shape.{some_data}
use Rattle.data_map.proofs.Striping.{data_unit_below}
use Rattle.stripe_plan.specs.declared.plan.Span.{Span}
use Rattle.stripe_plan.specs.declared.plan.Column.{Column}
use Rattle.stripe_plan.specs.Touched.{end_of, stripes, own, IsTouchedStripe}
use Rattle.stripe_plan.specs.Lost.{is_out, source, unwritable}
use Rattle.stripe_plan.specs.Asks.{changed}
use Rattle.stripe_plan.specs.Laws.{IsWithin}
use Rattle.stripe_plan.specs.Plans.{stores}
use Rattle.stripe_plan.specs.Words.{lost_from}
use Rattle.stripe_plan.proofs.Covering.{column_touched, own_touched}
use Rattle.stripe_plan.proofs.Parities.{changed_data, changed_all, own_one}
use Rattle.stripe_plan.proofs.ReadLaws.{stripe_touched}
use Rattle.stripe_plan.proofs.WriteLaws.{few_out}
use Rattle.plan_law.specs.Writes.{IsCarried}
use Rattle.plan_law.proofs.Stores.{unit_carried}
use Rattle.relation_law.proofs.ReturnsShort.{one_more, some_left}

-- ---- counts

-- what a test finds along a whole is what it finds along both parts
parts_found : (g : ℕ → Bool) (p a b : ℕ) → length (filter g (range_with_len p (a + b)))
    ≡ length (filter g (range_with_len p a)) + length (filter g (range_with_len (p + a) b))
parts_found g p zero b =
    let z : p + 0 ≡ p = omega arith in
    let n : 0 + b ≡ b = omega arith in
    rw (z, n) (omega arith)
parts_found g p (suc a) b =
    let on : p + suc a ≡ p + 1 + a = omega arith in
    let more : suc a + b ≡ suc (a + b) = omega arith in
    let rest = parts_found g (p + 1) a b in
    rw (more, on) (elim (cases_Bool (g p)) [
      | inl t ↦ rw t (omega (arith, rest))
      | inr f ↦ rw f rest
    ])

-- it finds all where it holds everywhere
all_found : (g : ℕ → Bool) (p n : ℕ) → ((i : ℕ) → i < n → g (p + i) ≡ true) → n ≤ length (filter g (range_with_len p n))
all_found g p zero each = omega arith
all_found g p (suc n) each =
    let here : g p ≡ true = let z : p + 0 ≡ p = omega arith in rw z at (each 0 (omega arith)) in
    let rest =
    all_found g (p + 1) n (λ i l.
    let on : p + suc i ≡ p + 1 + i = omega arith in rw on at (each (suc i) (omega (arith, l)))) in
    rw here (omega (arith, rest))

-- and one where it holds once
one_found : (g : ℕ → Bool) (p n i : ℕ) → i < n → g (p + i) ≡ true → 1 ≤ length (filter g (range_with_len p n))
one_found g p zero i l e = absurd (omega (arith, l))
one_found g p (suc n) zero l e = let z : p + 0 ≡ p = omega arith in let here = rw z at e in rw here (omega arith)
one_found g p (suc n) (suc i) l e =
    let on : p + suc i ≡ p + 1 + i = omega arith in
    let rest = one_found g (p + 1) n i (omega (arith, l)) (rw on at e) in
    elim (cases_Bool (g p)) [
      | inl t ↦ rw t (omega arith)
      | inr f ↦ rw f rest
    ]

-- ---- a stripe

-- the position of a unit of a stripe is out
abbrev unit_out : RawMap → List ℕ → (s u : ℕ) → Bool
unit_out m out s u = is_out m out (position_of m s u)

lost_counts : (m : RawMap) (out : List ℕ) (s c n : ℕ) →
    length (lost_from m out s c n) ≡ length (filter (unit_out m out s) (range_with_len c n))
unfolding lost_from
lost_counts m out s c zero = refl
lost_counts m out s c (suc n) = elim (cases_Bool (is_out m out (position_of m s c))) [
  | inl t ↦ rw t (ap suc (lost_counts m out s (c + 1) n))
  | inr f ↦ rw f (lost_counts m out s (c + 1) n)
]

-- a unit that a write of byte l changes, at the byte's column
abbrev is_changed : RawMap → (l u : ℕ) → Bool
is_changed m l u = (u == data_unit_of m l) || nat_le (data_units m) u

either_true : (a b : Bool) → (a || b) ≡ true → (a ≡ true) ⊎ (b ≡ true)
either_true true b e = inl refl
either_true false b e = inr e

or_left : (a b : Bool) → a ≡ true → (a || b) ≡ true
or_left true b e = refl
or_left false b e = absurd (cc e)

or_right : (a b : Bool) → b ≡ true → (a || b) ≡ true
or_right true b e = refl
or_right false b e = e

module _ (m : RawMap) (r : Span) (out : List ℕ) (ch : IsChecked m) (some : 0 < r.length)
    (can : unwritable m out (stripes m r) ≡ None) where
  abbrev l : ℕ
  l = r.offset

  abbrev s : ℕ
  s = stripe_of m r.offset

  inside : r.offset < end_of r
  inside = omega (arith, some)

  touched : IsTouchedStripe m r (stripe_of m r.offset)
  touched = stripe_touched m r r.offset ch (omega arith) inside

  -- the byte's unit and all of parity are changed there
  within : (u : ℕ) → is_changed m r.offset u ≡ true → IsWithin (column_of m r.offset) (changed m r (stripe_of m r.offset) u)
  within u e = elim (either_true (u == data_unit_of m r.offset) (nat_le (data_units m) u) e) [
    | inl same ↦
        let is : u ≡ data_unit_of m r.offset = eqb-true u (data_unit_of m r.offset) same in
        let low = data_unit_below m r.offset ch in
        let own_ = own_touched m r r.offset ch (omega arith) inside in
        let as_own = changed_data m r (stripe_of m r.offset) (data_unit_of m r.offset) low in
        let one =
        own_one m r (stripe_of m r.offset) (data_unit_of m r.offset)
        (own m r (stripe_of m r.offset) (data_unit_of m r.offset)) low refl (omega (arith, own_.0, own_.1)) in
        rw (is, as_own, one) (inl (own_.0, own_.1))
    | inr past ↦
        let high : data_units m ≤ u = grind (arith, nat_tests, past) in
        let all = changed_all m r (stripe_of m r.offset) u high in
        rw all (column_touched m r r.offset ch (omega arith) inside)
  ]

  -- more are changed than can be out
  changed_many : parities m < length (filter (is_changed m r.offset) (range_with_len 0 (group_width m)))
  changed_many =
      let some_unit = some_data m ch in
      let whole : data_units m + parities m ≡ group_width m = omega (arith, some_unit) in
      let low = data_unit_below m r.offset ch in
      let both = parts_found (is_changed m r.offset) 0 (data_units m) (parities m) in
      let first =
      one_found (is_changed m r.offset) 0 (data_units m) (data_unit_of m r.offset) low
      (let z : 0 + data_unit_of m r.offset ≡ data_unit_of m r.offset = omega arith in
      rw z (or_left (data_unit_of m r.offset == data_unit_of m r.offset) (nat_le (data_units m) (data_unit_of m r.offset))
      (eq-eqb (data_unit_of m r.offset) (data_unit_of m r.offset) refl))) in
      let rest =
      all_found (is_changed m r.offset) (0 + data_units m) (parities m) (λ i lt.
      or_right ((0 + data_units m + i) == data_unit_of m r.offset) (nat_le (data_units m) (0 + data_units m + i))
      (le-leb (data_units m) (0 + data_units m + i) (omega arith))) in
      subst (λ (n : ℕ). parities m < length (filter (is_changed m r.offset) (range_with_len 0 n))) whole
      (omega (arith, both, first, rest))

  -- so it is to be sent to one that isn't out
  pub some_stores : (bytes : List ℕ) (got : List Column) → stores m r bytes got out ≡ [] → ⊥
  unfolding source
  some_stores bytes got none =
      let few = few_out m r out (stripe_of m r.offset) ch some can touched in
      let count = lost_counts m out (stripe_of m r.offset) 0 (group_width m) in
      let one =
      one_more (unit_out m out (stripe_of m r.offset)) (is_changed m r.offset) 0 (group_width m)
      (omega (arith, few, count, changed_many)) in
      let z : 0 + one.0 ≡ one.0 = omega arith in
      let is : is_changed m r.offset one.0 ≡ true = rw z at one.2 in
      let open_ : unit_out m out (stripe_of m r.offset) one.0 ≡ false = rw z at one.3 in
      let p : ℕ = position_of m (stripe_of m r.offset) one.0 in
      let left = some_left out (p * replicas m) (replicas m) open_ in
      let carried : IsCarried (stores m r bytes got out) (p * replicas m + left.0)
      (offset_of m (stripe_of m r.offset) (column_of m r.offset)) =
      unit_carried m r bytes got out (stripe_of m r.offset) one.0 (column_of m r.offset) (p * replicas m + left.0) one.1 some
      touched (omega arith) (omega (arith, left.1)) left.2 (within one.0 is) in
      subst (λ ws. IsCarried ws (p * replicas m + left.0) (offset_of m (stripe_of m r.offset) (column_of m r.offset)))
      none carried
