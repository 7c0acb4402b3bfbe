-- A lane that is put leaves those of other holders.
use Rattle.std.proofs.Common.{◌≡◌, ℕ, suc, ◌+◌, ◌≤◌, ◌∷◌, [], List, length, Bool, true, false, cond, nat_eq, Option, Some, None, refl, sym, ap, subst, ◌∙◌, arith, inl, inr}
use Rattle.std.specs.List.{position, position_or_len}
use Rattle.std.specs.Option.{option_map}
use Rattle.std.proofs.lemmas.Bool.{cases_Bool, cases_eq, cases_lt, eq-eqb, ne_eqb, lt-ltb, le-ltb}
use Rattle.osd_objects.specs.declared.lanes.LaneEntry.{LaneEntry}
use Rattle.osd_objects.specs.Lanes.{place_of, lane_at, lane_of, put_at, with_lane}
use Rattle.osd_drive.proofs.LaneLaws.{lane_kept}
use Rattle.history_law.specs.Spent.{HasPassed}

-- ---- lanes by their holders, from the front

abbrev next : Option ℕ → Option ℕ
next o = option_map (λ i. 1 + i) o

position_here : (test : LaneEntry → Bool) (x : LaneEntry) (xs : List LaneEntry) → test x ≡ true
    → position test (x ∷ xs) ≡ Some 0
position_here test x xs here = rw here (rw (lt-ltb 0 (suc (length xs)) (omega arith)) refl)

position_past : (test : LaneEntry → Bool) (x : LaneEntry) (xs : List LaneEntry) → test x ≡ false
    → position test (x ∷ xs) ≡ next (position test xs)
position_past test x xs past = elim (cases_lt (position_or_len test xs) (length xs)) [
  | inl less ↦ rw past (rw (
    lt-ltb (position_or_len test xs) (length xs) less,
    lt-ltb (1 + position_or_len test xs) (suc (length xs)) (omega (arith, less)),
  ) refl)
  | inr from ↦ rw past (rw (
    le-ltb (position_or_len test xs) (length xs) from,
    le-ltb (1 + position_or_len test xs) (suc (length xs)) (omega (arith, from)),
  ) refl)
]

lane_past : (x : LaneEntry) (xs : List LaneEntry) (o : Option ℕ) → lane_at (x ∷ xs) (next o) ≡ lane_at xs o
lane_past x xs None = refl
lane_past x xs (Some i) = let e : 1 + i ≡ suc i = omega arith in rw e refl

put_past : (x : LaneEntry) (xs : List LaneEntry) (l : LaneEntry) (o : Option ℕ)
    → put_at (x ∷ xs) l (next o) ≡ x ∷ put_at xs l o
put_past x xs l None = refl
put_past x xs l (Some i) = let e : 1 + i ≡ suc i = omega arith in rw e refl

-- the first lane of a holder
abbrev first_of : List LaneEntry → (holder : ℕ) → Option LaneEntry
first_of [] q = None
first_of (x ∷ xs) q = cond (nat_eq x.holder q) (Some x) (first_of xs q)

abbrev first_put : List LaneEntry → LaneEntry → List LaneEntry
first_put [] l = l ∷ []
first_put (x ∷ xs) l = cond (nat_eq x.holder l.holder) (l ∷ xs) (x ∷ first_put xs l)

found_first : (xs : List LaneEntry) (q : ℕ) → lane_of xs q ≡ first_of xs q
found_first [] q = refl
found_first (x ∷ xs) q = elim (cases_Bool (nat_eq x.holder q)) [
  | inl here ↦ ap (lane_at (x ∷ xs)) (position_here (λ y. nat_eq y.holder q) x xs here) ∙ rw here refl
  | inr past ↦ ap (lane_at (x ∷ xs)) (position_past (λ y. nat_eq y.holder q) x xs past)
      ∙ lane_past x xs (place_of xs q) ∙ found_first xs q ∙ rw past refl
]

put_first : (xs : List LaneEntry) (l : LaneEntry) → with_lane xs l ≡ first_put xs l
put_first [] l = refl
put_first (x ∷ xs) l = elim (cases_Bool (nat_eq x.holder l.holder)) [
  | inl here ↦ ap (put_at (x ∷ xs) l) (position_here (λ y. nat_eq y.holder l.holder) x xs here) ∙ rw here refl
  | inr past ↦ ap (put_at (x ∷ xs) l) (position_past (λ y. nat_eq y.holder l.holder) x xs past)
      ∙ put_past x xs l (place_of xs l.holder) ∙ ap (λ (ys : List LaneEntry). x ∷ ys) (put_first xs l) ∙ rw past refl
]

first_beside : (xs : List LaneEntry) (l : LaneEntry) (q : ℕ) → (l.holder ≡ q → ⊥)
    → first_of (first_put xs l) q ≡ first_of xs q
first_beside [] l q other = rw (ne_eqb l.holder q other) refl
first_beside (x ∷ xs) l q other = elim (cases_eq x.holder l.holder) [
  | inl same ↦ rw (
    eq-eqb x.holder l.holder same,
    ne_eqb x.holder q (λ (e : x.holder ≡ q). other (sym same ∙ e)),
  ) (rw (ne_eqb l.holder q other) refl)
  | inr apart ↦ rw (ne_eqb x.holder l.holder apart)
      (ap (λ (o : Option LaneEntry). cond (nat_eq x.holder q) (Some x) o) (first_beside xs l q other))
]

pub lane_beside : (xs : List LaneEntry) (l : LaneEntry) (q : ℕ) → (l.holder ≡ q → ⊥)
    → lane_of (with_lane xs l) q ≡ lane_of xs q
lane_beside xs l q other =
    ap (λ (ys : List LaneEntry). lane_of ys q) (put_first xs l) ∙ found_first (first_put xs l) q
    ∙ first_beside xs l q other ∙ sym (found_first xs q)

-- ---- nonces that rise

-- the lane has this nonce at most
abbrev pub HasAtMost : Option LaneEntry → (nonce : ℕ) → Type 0
HasAtMost None n = Unit {0}
HasAtMost (Some l) n = l.nonce ≤ n

passed_on : (o : Option LaneEntry) (l : LaneEntry) (n : ℕ) → HasAtMost o l.nonce → HasPassed o n → n ≤ l.nonce
passed_on None l n most passed = absurd passed
passed_on (Some k) l n most passed = omega (arith, most, passed)

-- a lane with no smaller nonce than its holder's
pub lanes_rise : (xs : List LaneEntry) (l : LaneEntry) → HasAtMost (lane_of xs l.holder) l.nonce → (q n : ℕ)
    → HasPassed (lane_of xs q) n → HasPassed (lane_of (with_lane xs l) q) n
lanes_rise xs l most q n passed = elim (cases_eq l.holder q) [
  | inl same ↦
      let own : HasPassed (lane_of xs l.holder) n =
      subst (λ (k : ℕ). HasPassed (lane_of xs k) n) (sym same) passed in
      subst (λ (k : ℕ). HasPassed (lane_of (with_lane xs l) k) n) same
      (subst (λ (o : Option LaneEntry). HasPassed o n) (sym (lane_kept xs l))
      (passed_on (lane_of xs l.holder) l n most own))
  | inr other ↦ subst (λ (o : Option LaneEntry). HasPassed o n) (sym (lane_beside xs l q other)) passed
]

pub lane_passed : (xs : List LaneEntry) (l : LaneEntry) → HasPassed (lane_of (with_lane xs l) l.holder) l.nonce
lane_passed xs l = subst (λ (o : Option LaneEntry). HasPassed o l.nonce) (sym (lane_kept xs l)) (omega arith)
