-- The attributes of an object that its users set.
use Rattle.std.specs.Prelude.{ℕ, List, Option}
use Rattle.std.specs.Ordering.{nat_cmp}
use Rattle.std.specs.BTreeMap.{is_at}
use Rattle.std.specs.Map.{lookup}

-- values by number, in order
abbrev pub Values : Type 0
Values = List (ℕ × List ℕ)

abbrev pub value_of : Values → ℕ → Option (List ℕ)
value_of values number = lookup (is_at (nat_cmp number)) values
