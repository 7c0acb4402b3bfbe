-- Members of lists and tables, and which files there are.
use Rattle.std.specs.Prelude.{◌≡◌, ◌⊎◌, ◌<◌, ℕ, Bool, List, [], ◌∷◌, is_some}
use Rattle.server_rules.specs.Files.{file_at}
use Rattle.world_history.specs.ServerNames.{File}

-- x is one of these
abbrev pub In : {A : Type 0} → A → List A → Type 0
In x [] = ⊥
In x (y ∷ ys) = (x ≡ y) ⊎ In x ys

-- there is such a file
abbrev pub is_there : List File → (n : ℕ) → Bool
is_there fs n = is_some (file_at fs n)

-- each of these is so
abbrev pub Each : {A : Type 0} → (A → Type 0) → List A → Type 0
Each P [] = Unit {0}
Each P (x ∷ xs) = P x × Each P xs

-- a table by rising numbers
abbrev pub IsSorted : {X : Type 0} → List (ℕ × X) → Type 0
IsSorted [] = Unit {0}
IsSorted {X} (e ∷ es) = Each (λ (x : ℕ × X). e.0 < x.0) es × IsSorted es
