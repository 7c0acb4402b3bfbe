-- Numbers of which the first two change places.
use Rattle.std.specs.Prelude.{ℕ, List, [], ◌∷◌}

abbrev pub swapped : List ℕ → List ℕ
swapped [] = []
swapped (a ∷ []) = a ∷ []
swapped (a ∷ b ∷ ns) = b ∷ a ∷ ns
