-- The components that timed out in a call that can leave out what is lost: they rise and are lost, and nothing more is asked
-- of them.
use Rattle.std.proofs.Common.{◌≡◌, ◌≢◌, ◌≤◌, ◌<◌, ◌⊎◌, ℕ, ◌==◌, ◌||◌, not, Bool, true, false, List, [], ◌∷◌, nat_lt, refl, sym, ap, subst, ◌∙◌, inl, inr, arith}
use Rattle.std.specs.List.{AllByRecursion}
use Rattle.std.proofs.lemmas.Bool.{cases_Bool, cases_lt, lt-ltb, le-ltb, eq-eqb, ne_eqb, eqb-true}
use Rattle.std.proofs.lemmas.List.Folds.{list_any-append}
use Rattle.stripe_plan.specs.Lost.{among}
use Rattle.client_rules.specs.Commands.{of_component}
use Rattle.client_rules.specs.Grants.{missing_of}
use Rattle.client_rules.specs.Io.{outs}
use Rattle.client_rules.specs.Replies.{timed_after}
use Rattle.osd_lists.proofs.Tests.{first_false, second_false}
use Rattle.exchange_law.proofs.PlaceLists.{all_wider}
use Rattle.cause_law.specs.Met.{rising_with}
use Rattle.cause_law.proofs.Trace.{timed_more}
use Rattle.world_history.specs.ClientNames.{CallOp, Held, Awaited, TimedOut}
use Rattle.ready_law.specs.Enough.{AreAmong, LeavesEnough}
use Rattle.ready_law.specs.Reacting.{IsGood, IsOfCall, components_of, AreRising, IsLostThere, AreTimedWell}
use Rattle.ready_law.proofs.Enough.{enough_is_left}

-- ---- lists of numbers

first_or : (a b : Bool) → (a || b) ≡ true → (a ≡ true) ⊎ (b ≡ true)
first_or true b e = inl refl
first_or false b e = inr e

neither : (a b : Bool) → a ≡ false → b ≡ false → (a || b) ≡ false
neither a b e f = rw (e, f) refl

-- what holds of each holds of one that is among them
one_among : (P : ℕ → Type 0) (js : List ℕ) (k : ℕ) → AllByRecursion P js → among k js ≡ true → P k
one_among P [] k all e = absurd (cc e)
one_among P (j ∷ js) k all e = elim (first_or (j == k) (among k js) e) [
  | inl here ↦ subst P (eqb-true j k here) all.0
  | inr later ↦ one_among P js k all.1 later
]

-- none other than k comes to those
others_still : (k j : ℕ) (js : List ℕ) → j ≢ k → among j js ≡ false → among j (rising_with k js) ≡ false
unfolding rising_with
others_still k j [] ne e = neither (k == j) false (ne_eqb k j (λ s. ne (sym s))) refl
others_still k j (i ∷ is) ne e = elim (cases_Bool (nat_lt k i)) [
  | inl less ↦ rw less (neither (k == j) _ (ne_eqb k j (λ s. ne (sym s))) e)
  | inr not ↦ rw not (neither (i == j) _ (first_false (i == j) (among j is) e)
      (others_still k j is ne (second_false (i == j) (among j is) e)))
]

all_with : (P : ℕ → Type 0) (k : ℕ) (js : List ℕ) → P k → AllByRecursion P js → AllByRecursion P (rising_with k js)
unfolding rising_with
all_with P k [] is all = (is, tt)
all_with P k (j ∷ js) is all = elim (cases_Bool (nat_lt k j)) [
  | inl less ↦ rw less (is, all)
  | inr not ↦ rw not (all.0, all_with P k js is all.1)
]

rising_still : (k : ℕ) (js : List ℕ) → among k js ≡ false → AreRising js → AreRising (rising_with k js)
unfolding rising_with
rising_still k [] new rise = (tt, tt)
rising_still k (j ∷ js) new rise = elim (cases_lt k j) [
  | inl less ↦ rw (lt-ltb k j less) (((less, all_wider _ _ (λ i l. omega (arith, less, l)) js rise.0), rise))
  | inr most ↦
      let above : j < k = past k j most (first_false (j == k) (among k js) new) in
      rw (le-ltb k j most)
      (all_with (λ (i : ℕ). j < i) k js above rise.0, rising_still k js (second_false (j == k) (among k js) new) rise.1)
]
  where
    past : (k j : ℕ) → j ≤ k → (j == k) ≡ false → j < k
    past k j l e = elim (cases_lt j k) [
      | inl less ↦ less
      | inr most ↦
          let same : j ≡ k = omega (arith, l, most) in
          absurd (cc (sym e ∙ eq-eqb j k same))
    ]

-- ---- components that are out

pub out_before : (h : Held) (timed : List TimedOut) (k : ℕ) → among k (outs h timed) ≡ false
    → (among k (missing_of h) ≡ false) × (among k (components_of timed) ≡ false)
unfolding outs
out_before h timed k e =
    let both : (among k (missing_of h) || among k (components_of timed)) ≡ false =
    sym (list_any-append (λ (j : ℕ). j == k) (missing_of h) (components_of timed)) ∙ e in (
      first_false (among k (missing_of h)) (among k (components_of timed)) both,
      second_false (among k (missing_of h)) (among k (components_of timed)) both,
    )

out_with : (h : Held) (timed : List TimedOut) (k : ℕ) → among k (missing_of h) ≡ false
    → among k (components_of timed) ≡ false → among k (outs h timed) ≡ false
unfolding outs
out_with h timed k e f =
    list_any-append (λ (j : ℕ). j == k) (missing_of h) (components_of timed)
    ∙ neither (among k (missing_of h)) (among k (components_of timed)) e f

module _ (h : Held) (op : CallOp) (lost : List ℕ) where
  -- each that is out is lost
  outs_lost : IsGood h op lost → (timed : List TimedOut) → AreTimedWell h op lost timed → AreAmong (outs h timed) lost
  unfolding outs
  outs_lost good timed well k e =
      elim (first_or (among k (missing_of h)) (among k (components_of timed))
      (sym (list_any-append (λ (j : ℕ). j == k) (missing_of h) (components_of timed)) ∙ e)) [
        | inl missing ↦ good.missing k missing
        | inr gone ↦ (one_among (IsLostThere h op lost) (components_of timed) k well.each gone).gone
      ]

  -- so enough is left
  pub enough_left : IsGood h op lost → (timed : List TimedOut) → AreTimedWell h op lost timed
      → LeavesEnough h.map (outs h timed) lost
  enough_left good timed well = enough_is_left h.map (outs h timed) lost (outs_lost good timed well)

  -- ---- one more

  module _ (k : ℕ) (ys : List Awaited) (a : Awaited) (xs : List Awaited) (is : of_component k ys ≡ a ∷ xs)
      (timed : List TimedOut) where
    pub still_there : (j : ℕ) → j ≢ k → among j (outs h timed) ≡ false → among j (outs h (timed_after timed a xs)) ≡ false
    still_there j ne e =
        let b = out_before h timed j e in
        out_with h (timed_after timed a xs) j b.0
        (ap (λ (js : List ℕ). among j js) (timed_more k ys a xs timed is) ∙ others_still k j (components_of timed) ne b.1)

    pub one_more : AreTimedWell h op lost timed → among k lost ≡ true → IsOfCall h op k → among k (outs h timed) ≡ false
        → AreTimedWell h op lost (timed_after timed a xs)
    one_more well gone asked there = record {
      each =
          subst (AllByRecursion (IsLostThere h op lost)) (sym (timed_more k ys a xs timed is))
          (all_with (IsLostThere h op lost) k (components_of timed) (record { gone = gone; asked = asked }) well.each);
      rise =
          subst AreRising (sym (timed_more k ys a xs timed is))
          (rising_still k (components_of timed) (out_before h timed k there).1 well.rise);
    }
