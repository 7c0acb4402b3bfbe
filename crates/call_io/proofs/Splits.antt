-- The first write to each component and the others, one write at a time.
use Rattle.std.proofs.Common.{◌≡◌, ◌==◌, ◌||◌, ◌++◌, ℕ, Bool, true, false, List, [], ◌∷◌, refl, sym, ap, ◌∙◌, inl, inr}
use Rattle.std.proofs.lemmas.Bool.{cases_Bool}
use Rattle.stripe_plan.specs.Lost.{among}
use Rattle.client_rules.specs.Writes.{firsts, laters}
use Rattle.call_io.specs.State.{Store}
use Rattle.call_io.specs.Splits.{seen_with, new_first, new_later}

or_swap : (a b c : Bool) → (a || (b || c)) ≡ (b || (a || c))
or_swap true true c = refl
or_swap true false c = refl
or_swap false true c = refl
or_swap false false c = refl

among_snoc : (k y : ℕ) (xs : List ℕ) → among k (y ∷ xs) ≡ among k (xs ++ y ∷ [])
among_snoc k y [] = refl
among_snoc k y (x ∷ xs) = or_swap (y == k) (x == k) (among k xs) ∙ ap (λ (b : Bool). (x == k) || b) (among_snoc k y xs)

-- only which components have one counts
same_firsts : (s t : List ℕ) → ((k : ℕ) → among k s ≡ among k t) → (ws : List Store) → firsts s ws ≡ firsts t ws
unfolding firsts
same_firsts s t h [] = refl
same_firsts s t h (w ∷ ws) = elim (cases_Bool (among w.ask.component s)) [
  | inl e ↦ rw (e, sym (h w.ask.component) ∙ e) (same_firsts s t h ws)
  | inr e ↦ rw (e, sym (h w.ask.component) ∙ e)
      (ap (λ xs. w ∷ xs)
      (same_firsts (w.ask.component ∷ s) (w.ask.component ∷ t) (λ k. ap (λ (b : Bool). (w.ask.component == k) || b) (h k)) ws))
]

same_laters : (s t : List ℕ) → ((k : ℕ) → among k s ≡ among k t) → (ws : List Store) → laters s ws ≡ laters t ws
unfolding laters
same_laters s t h [] = refl
same_laters s t h (w ∷ ws) = elim (cases_Bool (among w.ask.component s)) [
  | inl e ↦ rw (e, sym (h w.ask.component) ∙ e) (ap (λ xs. w ∷ xs) (same_laters s t h ws))
  | inr e ↦ rw (e, sym (h w.ask.component) ∙ e)
      (same_laters (w.ask.component ∷ s) (w.ask.component ∷ t) (λ k. ap (λ (b : Bool). (w.ask.component == k) || b) (h k)) ws)
]

pub first_turn : (s : List ℕ) (w : Store) (ws : List Store) →
    new_first s w ++ firsts (seen_with s w.ask.component) ws ≡ firsts s (w ∷ ws)
unfolding firsts
first_turn s w ws = elim (cases_Bool (among w.ask.component s)) [
  | inl e ↦ rw e refl
  | inr e ↦ rw e
      (ap (λ xs. w ∷ xs)
      (sym (same_firsts (w.ask.component ∷ s) (s ++ w.ask.component ∷ []) (λ k. among_snoc k w.ask.component s) ws)))
]

pub later_turn : (s : List ℕ) (w : Store) (ws : List Store) →
    new_later s w ++ laters (seen_with s w.ask.component) ws ≡ laters s (w ∷ ws)
unfolding laters
later_turn s w ws = elim (cases_Bool (among w.ask.component s)) [
  | inl e ↦ rw e refl
  | inr e ↦ rw e (sym (same_laters (w.ask.component ∷ s) (s ++ w.ask.component ∷ []) (λ k. among_snoc k w.ask.component s) ws))
]

pub first_end : (s : List ℕ) → firsts s [] ≡ []
unfolding firsts
first_end s = refl

pub later_end : (s : List ℕ) → laters s [] ≡ []
unfolding laters
later_end s = refl
