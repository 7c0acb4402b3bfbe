-- Numbers that are marked.
use Rattle.std.specs.Prelude.{ℕ, List, ◌≤◌}
use Rattle.std.specs.List.{All}

-- none of the numbers is above the top
abbrev pub AreUpTo : (top : ℕ) → List ℕ → Type 0
AreUpTo top numbers = All (λ n. n ≤ top) numbers
