-- What holds of each member of a numbered list stays so as one changes, or comes.
use Rattle.std.proofs.Common.{◌≡◌, ℕ, List, Some, IsSome, refl, sym, ap, subst, ◌∙◌, inl, inr}
use Rattle.std.proofs.lemmas.Bool.{cases_eq}
use Rattle.osd_lists.proofs.Options.{same_some}
use Rattle.osd_objects.proofs.Entries.{lookup_set, lookup_set_beside, lookup_inserted, lookup_beside}
use Rattle.world_history.specs.State.{at_number, with_number, and_number}

abbrev pub EachAt : {A : Type 0} → (A → Type 0) → List (ℕ × A) → Type 0
EachAt {A} P xs = (n : ℕ) (x : A) → at_number xs n ≡ Some x → P x

pub put_each : {A : Type 0} (P : A → Type 0) (xs : List (ℕ × A)) (n : ℕ) (a b : A) → at_number xs n ≡ Some a → P b
    → EachAt P xs → EachAt P (with_number xs n b)
put_each P xs n a b found own all m x e = elim (cases_eq m n) [
  | inl it ↦
      let same : b ≡ x =
      same_some b x (at_number (with_number xs n b) m)
      (ap (at_number (with_number xs n b)) it ∙ lookup_set xs n b (subst IsSome (sym found) refl)) e in
      subst P same own
  | inr other ↦ all m x (sym (lookup_set_beside xs n m b other) ∙ e)
]

pub come_each : {A : Type 0} (P : A → Type 0) (xs : List (ℕ × A)) (n : ℕ) (b : A) → P b → EachAt P xs
    → EachAt P (and_number xs n b)
come_each P xs n b own all m x e = elim (cases_eq m n) [
  | inl it ↦
      let same : b ≡ x =
      same_some b x (at_number (and_number xs n b) m)
      (ap (at_number (and_number xs n b)) it ∙ lookup_inserted xs n b) e in
      subst P same own
  | inr other ↦ all m x (sym (lookup_beside xs n m b other) ∙ e)
]
