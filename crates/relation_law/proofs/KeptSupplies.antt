-- The events of a fence that begins, and of a drive that is declared, can happen.
-- Towards `KeptGoesOn` (`specs/Steps.antt`).
use Rattle.std.proofs.Common.{◌≡◌, ◌==◌, ℕ, suc, ◌+◌, Bool, true, false, List, [], ◌∷◌, ◌++◌, slice_get, Some, refl, sym, subst, arith, inl, inr}
use Rattle.std.proofs.lemmas.Bool.{cases_Bool}
use Rattle.world_history.specs.ServerNames.{File, Component}
use Rattle.fence_law.specs.State.{State}
use Rattle.fence_law.specs.State.Event.{Fences, Declares}
use Rattle.fence_law.specs.Machine.{Lawful, after}
use Rattle.file_simulation.specs.EventLists.{where_so}
use Rattle.file_simulation.specs.ServerEvents.{begins_fence, fences, declared_from}
use Rattle.relation_law.specs.KeptSteps.{IsKeptAt}
use Rattle.relation_law.proofs.KeptGuards.{fences_allowed}

-- ---- the first line

pub fences_lawful : (next : ℕ) (s : State) (f g : File) → IsKeptAt next s f → Lawful s (fences f g)
fences_lawful next s f g h = elim (cases_Bool (begins_fence f g)) [
  | inl e ↦
      let a : Lawful s (where_so true (Fences ∷ [])) = (fences_allowed next s f g e h, tt) in
      subst (λ (b : Bool). Lawful s (where_so b (Fences ∷ []))) (sym e) a
  | inr e ↦
      let a : Lawful s (where_so false (Fences ∷ [])) = tt in
      subst (λ (b : Bool). Lawful s (where_so b (Fences ∷ []))) (sym e) a
]

-- each component on the drive, from number k on, is lost
abbrev pub AreLostOn : State → (drive : ℕ) → List Component → (k : ℕ) → Type 0
AreLostOn s d cs k =
    (n : ℕ) (at : Component) → slice_get cs n ≡ Some at → (at.drive == d) ≡ true → s.lost (k + n) ≡ true

pub declared_lawful : (s : State) (d : ℕ) (cs : List Component) (k : ℕ) → AreLostOn s d cs k → Lawful s (declared_from d cs k)
unfolding declared_from
declared_lawful s d [] k lost = tt
declared_lawful s d (at ∷ cs) k lost = elim (cases_Bool (at.drive == d)) [
  | inl e ↦
      let here : s.lost k ≡ true =
      subst (λ (n : ℕ). s.lost n ≡ true) (let z : k + 0 ≡ k = omega arith in z) (lost 0 at refl e) in
      let a : Lawful s (where_so true (Declares k ∷ []) ++ declared_from d cs (k + 1)) =
      (here, declared_lawful (after s (Declares k)) d cs (k + 1) (rest s lost)) in
      subst (λ (b : Bool). Lawful s (where_so b (Declares k ∷ []) ++ declared_from d cs (k + 1))) (sym e) a
  | inr e ↦
      let a : Lawful s (where_so false (Declares k ∷ []) ++ declared_from d cs (k + 1)) =
      declared_lawful s d cs (k + 1) (rest s lost) in
      subst (λ (b : Bool). Lawful s (where_so b (Declares k ∷ []) ++ declared_from d cs (k + 1))) (sym e) a
]
  where
    rest : (t : State) → AreLostOn t d (at ∷ cs) k → (n : ℕ) (x : Component) → slice_get cs n ≡ Some x
        → (x.drive == d) ≡ true → t.lost (k + 1 + n) ≡ true
    rest t all n x is on =
        subst (λ (j : ℕ). t.lost j ≡ true) (let z : k + suc n ≡ k + 1 + n = omega arith in z) (all (suc n) x is on)
