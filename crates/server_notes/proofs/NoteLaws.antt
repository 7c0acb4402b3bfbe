-- Notes that are picked from others.
use Rattle.std.proofs.Common.{◌≡◌, inl, inr, List, ◌∷◌, ◌++◌, Bool, refl}
use Rattle.std.proofs.lemmas.Bool.{cases_Bool}
use Rattle.std.specs.Prelude.{filter}
use Rattle.server_rules.specs.declared.notes.Note.{Note}
use Rattle.server_notes.specs.Asking.{picked_of}

-- the first of them, and those of the others
pub picked_first : (p : Note → Bool) (n : Note) (notes : List Note) → picked_of (p n) n ++ filter p notes ≡ filter p (n ∷ notes)
picked_first p n notes = elim (cases_Bool (p n)) [
  | inl is ↦ rw is refl
  | inr isnt ↦ rw isnt refl
]
