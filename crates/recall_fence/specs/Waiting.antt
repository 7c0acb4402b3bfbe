-- Lists of components that are waited for.
use Rattle.std.specs.Prelude.{ℕ, List, [], ◌∷◌, Option, Some, None, ◌==◌, not, nat_le, if◌then◌else◌, filter}

-- all but this number
abbrev pub without : (number : ℕ) → List ℕ → List ℕ
without number ns = filter (λ n. not (n == number)) ns

-- the lower of two, where there is a first
unfoldable pub lower : Option ℕ → ℕ → Option ℕ
lower None n = Some n
lower (Some m) n = if nat_le m n then Some m else Some n

-- the lowest of one that there may be and these
abbrev pub lowest_with : Option ℕ → List ℕ → Option ℕ
lowest_with least [] = least
lowest_with least (n ∷ ns) = lowest_with (lower least n) ns

abbrev pub lowest : List ℕ → Option ℕ
lowest ns = lowest_with None ns
