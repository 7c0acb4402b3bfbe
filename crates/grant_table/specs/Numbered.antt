-- Grants by their numbers.
use Rattle.std.specs.Prelude.{ℕ, Bool, List, [], ◌∷◌, ◌==◌, if◌then◌else◌}
use Rattle.server_rules.specs.declared.grants.Grant.{Grant}

abbrev pub has_number : (number : ℕ) → Grant → Bool
has_number number g = g.number == number

-- all but the first grant of that number
abbrev pub without_number : (number : ℕ) → List Grant → List Grant
without_number number [] = []
without_number number (g ∷ gs) = if has_number number g then gs else g ∷ without_number number gs
