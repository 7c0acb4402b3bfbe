-- The rule that says which files an opening fences, by what the book has of them.
use Rattle.std.proofs.Common.{◌≡◌, ◌≢◌, ◌⊎◌, ◌<◌, ℕ, true, false, true≢false, not, ◌||◌, List, [], ◌∷◌, length, nat_lt, refl, sym, ap, ◌∙◌, arith, inl, inr}
use Rattle.std.proofs.lemmas.Bool.Decides.{nat_tests}
use Rattle.server_rules.specs.Openings.{is_still, is_unsettled}
use Rattle.world_history.specs.ServerNames.{Kept, Grant, Phase, Still, Fencing, Repairing, FencingAgain}
use Rattle.cause_law.specs.Changes.{IsUnsettled}

moving : (p : Phase) → p ≢ Still → is_still p ≡ false
moving Still other = absurd (other refl)
moving Fencing other = refl
moving Repairing other = refl
moving FencingAgain other = refl

not_still : (p : Phase) → is_still p ≡ false → p ≢ Still
not_still p e same = true≢false (sym (ap is_still same) ∙ e)

less : (n : ℕ) → 0 < n → nat_lt 0 n ≡ true
less n l = grind (arith, nat_tests, l)

some_live : (gs : List Grant) (p : Phase) → (gs ≢ []) ⊎ (p ≢ Still) → (nat_lt 0 (length gs) || not (is_still p)) ≡ true
some_live [] p (inl some) = absurd (some refl)
some_live [] p (inr other) = rw (moving p other) refl
some_live (g ∷ gs) p is = rw (less (length (g ∷ gs)) (omega arith)) refl

one_of : (gs : List Grant) (p : Phase) → (nat_lt 0 (length gs) || not (is_still p)) ≡ true → (gs ≢ []) ⊎ (p ≢ Still)
one_of (g ∷ gs) p e = inl (λ none. cc none)
one_of [] Still e = absurd (cc e)
one_of [] Fencing e = inr (λ same. cc same)
one_of [] Repairing e = inr (λ same. cc same)
one_of [] FencingAgain e = inr (λ same. cc same)

-- an opening fences each file that has a live grant, or a fence or a repair that isn't over
pub is_fenced : (f : Kept) → IsUnsettled f → is_unsettled f ≡ true
is_fenced f is = some_live f.grants f.phase is

-- and no other
pub unsettled : (f : Kept) → is_unsettled f ≡ true → IsUnsettled f
unsettled f e = one_of f.grants f.phase e
