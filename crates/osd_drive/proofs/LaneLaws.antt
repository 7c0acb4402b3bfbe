-- A lane that was put is found.
use Rattle.std.proofs.Common.{◌≡◌, ℕ, suc, ◌+◌, List, [], ◌∷◌, length, Bool, true, false, nat_eq, Option, Some, None, refl, ap, ◌∙◌, arith, inl, inr}
use Rattle.std.specs.List.{position, position_or_len}
use Rattle.std.specs.Option.{option_map}
use Rattle.std.proofs.lemmas.Bool.{cases_Bool, eq-eqb, lt-ltb, le-ltb, cases_lt}
use Rattle.osd_objects.specs.declared.lanes.LaneEntry.{LaneEntry}
use Rattle.osd_objects.specs.Lanes.{place_of, lane_at, lane_of, put_at, with_lane}

abbrev next : Option ℕ → Option ℕ
next o = option_map (λ i. 1 + i) o

position_here : {X : Type 0} (test : X → Bool) (x : X) (xs : List X) → test x ≡ true → position test (x ∷ xs) ≡ Some 0
position_here test x xs here = rw here (rw (lt-ltb 0 (suc (length xs)) (omega arith)) refl)

position_past : {X : Type 0} (test : X → Bool) (x : X) (xs : List X) → test x ≡ false →
    position test (x ∷ xs) ≡ next (position test xs)
position_past test x xs past = elim (cases_lt (position_or_len test xs) (length xs)) [
  | inl less ↦ rw past
      (rw (
        lt-ltb (position_or_len test xs) (length xs) less,
        lt-ltb (1 + position_or_len test xs) (suc (length xs)) (omega (arith, less)),
      ) refl)
  | inr from ↦ rw past
      (rw (
        le-ltb (position_or_len test xs) (length xs) from,
        le-ltb (1 + position_or_len test xs) (suc (length xs)) (omega (arith, from)),
      ) refl)
]

put_past : (x : LaneEntry) (xs : List LaneEntry) (l : LaneEntry) (o : Option ℕ) → put_at (x ∷ xs) l (next o) ≡ x ∷ put_at xs l o
put_past x xs l None = refl
put_past x xs l (Some i) = let e : 1 + i ≡ suc i = omega arith in rw e refl

lane_past : (x : LaneEntry) (xs : List LaneEntry) (o : Option ℕ) → lane_at (x ∷ xs) (next o) ≡ lane_at xs o
lane_past x xs None = refl
lane_past x xs (Some i) = let e : 1 + i ≡ suc i = omega arith in rw e refl

own : (l : LaneEntry) → nat_eq l.holder l.holder ≡ true
own l = eq-eqb l.holder l.holder refl

first_lane : (l : LaneEntry) (xs : List LaneEntry) → lane_of (l ∷ xs) l.holder ≡ Some l
first_lane l xs = ap (lane_at (l ∷ xs)) (position_here (λ x. nat_eq x.holder l.holder) l xs (own l))

pub lane_kept : (lanes : List LaneEntry) (l : LaneEntry) → lane_of (with_lane lanes l) l.holder ≡ Some l
lane_kept [] l = first_lane l []
lane_kept (x ∷ xs) l =
    let test : LaneEntry → Bool = λ y. nat_eq y.holder l.holder in
    elim (cases_Bool (nat_eq x.holder l.holder)) [
      | inl here ↦ ap (λ o. lane_of (put_at (x ∷ xs) l o) l.holder) (position_here test x xs here) ∙ first_lane l xs
      | inr past ↦
          ap (λ o. lane_of (put_at (x ∷ xs) l o) l.holder) (position_past test x xs past)
          ∙ ap (λ ys. lane_of ys l.holder) (put_past x xs l (place_of xs l.holder))
          ∙ ap (lane_at (x ∷ with_lane xs l)) (position_past test x (with_lane xs l) past)
          ∙ lane_past x (with_lane xs l) (place_of (with_lane xs l) l.holder) ∙ lane_kept xs l
    ]
