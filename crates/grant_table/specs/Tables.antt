-- Grants by file: a list with numbers.
use Rattle.std.specs.Prelude.{ℕ, List, [], Option, Some, None, ◌≡◌, find}
use Rattle.std.specs.Ordering.{nat_cmp}
use Rattle.std.specs.BTreeMap.{is_at}
use Rattle.std.specs.Map.{lookup}
use Rattle.server_rules.specs.declared.grants.Grant.{Grant}
use Rattle.grant_table.specs.Numbered.{has_number, without_number}

abbrev pub Table : Type 0
Table = List (ℕ × List Grant)

abbrev pub or_none : Option (List Grant) → List Grant
or_none None = []
or_none (Some gs) = gs

-- the grants of a file, oldest first
abbrev pub grants_of : Table → (file : ℕ) → List Grant
grants_of table file = or_none (lookup (is_at (nat_cmp file)) table)

-- each file has the same grants
abbrev pub Same : Table → Table → Type 0
Same old new = (file : ℕ) → grants_of new file ≡ grants_of old file

-- one file has these grants, and each other the same as before
pub record Replaces (old : Table) (file : ℕ) (gs : List Grant) (new : Table) : Type 0 where
  pub here : grants_of new file ≡ gs
  pub others : (other : ℕ) → (other ≡ file → ⊥) → grants_of new other ≡ grants_of old other

-- no file has a grant of that number
abbrev pub HasNone : (number : ℕ) → Table → Type 0
HasNone number table = (file : ℕ) → find (has_number number) (grants_of table file) ≡ None

-- the file's first grant of that number is g, and it goes
pub record Removes (old : Table) (number file : ℕ) (g : Grant) (new : Table) : Type 0 where
  pub found : find (has_number number) (grants_of old file) ≡ Some g
  pub left : Replaces old file (without_number number (grants_of old file)) new
