-- Grants by file.
use Rattle.std.specs.Prelude.{ℕ, Bool, true, false, List, [], ◌∷◌, Option, Some, None, IsSome, is_some, refl, ◌≡◌, ◌||◌, find}
use Rattle.std.specs.Ordering.{nat_cmp}
use Rattle.std.specs.BTreeMap.{is_at}
use Rattle.std.specs.Map.{lookup}
use Rattle.std.proofs.Common.{rules, inl, inr}
use Rattle.std.proofs.lemmas.Bool.{cases_Bool, or_parts}
use Rattle.osd_lists.proofs.Options.{none_there}
use Rattle.server_rules.specs.declared.grants.Grant.{Grant}
use Rattle.grant_table.specs.Numbered.{has_number}
use Rattle.grant_table.specs.Tables.{Table, grants_of, HasNone}

-- a file has a grant of that number
abbrev pub any_has : (number : ℕ) → Table → Bool
any_has number [] = false
any_has number (e ∷ es) = is_some (find (has_number number) e.1) || any_has number es

pub none_has : (number : ℕ) (t : Table) → any_has number t ≡ false → HasNone number t
none_has number [] n = λ file. refl
none_has number (e ∷ es) n = λ file. elim (cases_Bool (is_at (nat_cmp file) e.0)) [
  | inl t ↦ rw t (none_there _ (or_parts _ _ n).0)
  | inr z ↦ rw z (none_has number es (or_parts _ _ n).1 file)
]

some_if : (o : Option Grant) → is_some o ≡ true → IsSome o
some_if None e = absurd (cc e)
some_if (Some g) e = search rules

-- the file's grants were found
pub holds_there : (number file : ℕ) (t : Table) (gs : List Grant) → lookup (is_at (nat_cmp file)) t ≡ Some gs →
    is_some (find (has_number number) gs) ≡ true →
    IsSome (find (has_number number) (grants_of t file))
holds_there number file t gs e s = rw e (some_if _ s)
