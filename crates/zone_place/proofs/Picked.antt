-- The drive that is picked: it may take the component, and none that may comes before it.
use Rattle.std.proofs.Common.{◌≡◌, ℕ, List, [], ◌∷◌, Bool, true, false, Option, Some, None, refl, sym, ◌∙◌, ap, arith, inl, inr, ◌⊎◌}
use Rattle.std.specs.List.{filter}
use Rattle.std.proofs.lemmas.Bool.{cases_Bool, true≢false}
use Rattle.std.proofs.lemmas.Bool.Decides.{nat_tests}
use Rattle.zone_place.specs.declared.asks.ZoneAsk.{ZoneAsk}
use Rattle.zone_place.specs.declared.loads.ZoneLoad.{ZoneLoad}
use Rattle.zone_place.specs.declared.loads.Holder.{Holder}
use Rattle.zone_place.specs.Choosing.{takes, comes_before, earlier, first_of, pick_of}
use Rattle.zone_place.proofs.Firsts.{before_all}

-- the load is among these
abbrev pub In : ZoneLoad → List ZoneLoad → Type 0
In l [] = ⊥
In l (m ∷ ms) = (l ≡ m) ⊎ In l ms

first_passes : (p : ZoneLoad → Bool) (ls : List ZoneLoad) (l : ZoneLoad) → first_of (filter p ls) ≡ Some l →
    (p l ≡ true) × In l ls
unfolding first_of
first_passes p [] l e = absurd (cc e)
first_passes p (m ∷ ms) l e = elim (cases_Bool (p m)) [
  | inl on ↦ among (first_of (filter p ms)) on (first_passes p ms l) (rw on at e)
  | inr off ↦ let later = first_passes p ms l (rw off at e) in (later.0, inr later.1)
]
  where
    here : (x : ZoneLoad) → p m ≡ true → Some m ≡ Some x → (p x ≡ true) × In x (m ∷ ms)
    here x on f = let same : x ≡ m = cc f in (ap p same ∙ on, inl same)

    among : (o : Option ZoneLoad) → p m ≡ true → (o ≡ Some l → (p l ≡ true) × In l ms) → earlier m o ≡ Some l →
        (p l ≡ true) × In l (m ∷ ms)
    among None on later f = here l on f
    among (Some n) on later f = elim (cases_Bool (comes_before m n)) [
      | inl before ↦ here l on (rw before at f)
      | inr after ↦ let rest = later (rw after at f) in (rest.0, inr rest.1)
    ]

none_passes : (p : ZoneLoad → Bool) (ls : List ZoneLoad) (m : ZoneLoad) → first_of (filter p ls) ≡ None → In m ls → p m ≡ false
unfolding first_of
none_passes p [] m e i = absurd i
none_passes p (l ∷ ls) m e i = elim (cases_Bool (p l)) [
  | inl on ↦ absurd (some (first_of (filter p ls)) (rw on at e))
  | inr off ↦ elim i [
    | inl same ↦ ap p same ∙ off
    | inr later ↦ none_passes p ls m (rw off at e) later
  ]
]
  where
    some : (o : Option ZoneLoad) → earlier l o ≡ None → ⊥
    some None f = cc f
    some (Some n) f = elim (cases_Bool (comes_before l n)) [
      | inl before ↦ none_of (rw before at f)
      | inr after ↦ none_of (rw after at f)
    ]
      where
        none_of : {x : ZoneLoad} → Some x ≡ None → ⊥
        none_of g = cc g

not_itself : (l : ZoneLoad) → comes_before l l ≡ false
not_itself l = grind (arith, nat_tests)

not_before_first : (a b c : ZoneLoad) → comes_before b c ≡ true → comes_before a c ≡ false → comes_before a b ≡ false
not_before_first a b c p q = elim (cases_Bool (comes_before a b)) [
  | inl r ↦ absurd (true≢false (sym (before_all a b c r p) ∙ q))
  | inr r ↦ r
]

first_is_first : (p : ZoneLoad → Bool) (ls : List ZoneLoad) (l m : ZoneLoad) → first_of (filter p ls) ≡ Some l → In m ls →
    p m ≡ true → comes_before m l ≡ false
unfolding first_of
first_is_first p [] l m e i on = absurd i
first_is_first p (x ∷ xs) l m e i on = elim (cases_Bool (p x)) [
  | inl takes ↦ among (first_of (filter p xs)) (none_passes p xs m) (λ n. first_is_first p xs n m) (rw takes at e) i
  | inr leaves ↦ elim i [
    | inl same ↦ absurd (true≢false (sym on ∙ (ap p same ∙ leaves)))
    | inr later ↦ first_is_first p xs l m (rw leaves at e) later on
  ]
]
  where
    among : (o : Option ZoneLoad) → (o ≡ None → In m xs → p m ≡ false) →
        ((n : ZoneLoad) → o ≡ Some n → In m xs → p m ≡ true → comes_before m n ≡ false)
        → earlier x o ≡ Some l → (m ≡ x) ⊎ In m xs → comes_before m l ≡ false
    among None none rest f j = let first : l ≡ x = cc f in elim j [
      | inl same ↦ ap (λ y. comes_before y l) (same ∙ sym first) ∙ not_itself l
      | inr later ↦ absurd (true≢false (sym on ∙ none refl later))
    ]
    among (Some n) none rest f j = elim (cases_Bool (comes_before x n)) [
      | inl before ↦ let first : l ≡ x = cc (rw before at f) in elim j [
        | inl same ↦ ap (λ y. comes_before y l) (same ∙ sym first) ∙ not_itself l
        | inr later ↦ ap (comes_before m) first ∙ not_before_first m x n before (rest n refl later on)
      ]
      | inr after ↦ let first : l ≡ n = cc (rw after at f) in elim j [
        | inl same ↦ ap (comes_before m) first ∙ (ap (λ y. comes_before y n) same ∙ after)
        | inr later ↦ ap (comes_before m) first ∙ rest n refl later on
      ]
    ]

pub picked_takes : (ask : ZoneAsk) (k : ℕ) (hs : List Holder) (loads : List ZoneLoad) (l : ZoneLoad) →
    pick_of ask k hs loads ≡ Some l → (takes ask loads k hs l ≡ true) × In l loads
picked_takes ask k hs loads l e = first_passes (takes ask loads k hs) loads l e

pub picked_is_first : (ask : ZoneAsk) (k : ℕ) (hs : List Holder) (loads : List ZoneLoad) (l m : ZoneLoad) →
    pick_of ask k hs loads ≡ Some l → In m loads
    → takes ask loads k hs m ≡ true → comes_before m l ≡ false
picked_is_first ask k hs loads l m e i on = first_is_first (takes ask loads k hs) loads l m e i on

pub none_takes : (ask : ZoneAsk) (k : ℕ) (hs : List Holder) (loads : List ZoneLoad) (m : ZoneLoad) →
    pick_of ask k hs loads ≡ None → In m loads → takes ask loads k hs m ≡ false
none_takes ask k hs loads m e i = none_passes (takes ask loads k hs) loads m e i
