-- Stripes that were changed in some of their columns.
use Rattle.std.specs.Prelude.{◌≡◌, ℕ, ◌+◌, ◌<◌, ◌≤◌, List, length, map, slice_set}
use Rattle.parity_code.specs.Parity.{column}

-- the n bytes of one row from at on became f, and no other byte changed
pub record Stored (row at n : ℕ) (f : ℕ → ℕ) (old new : List (List ℕ)) : Type 0 where
  pub shape : map length new ≡ map length old
  pub inside : (k : ℕ) → k < n → column new (at + k) ≡ slice_set (column old (at + k)) row (f k)
  pub below : (k : ℕ) → k < at → column new k ≡ column old k
  pub above : (k : ℕ) → at + n ≤ k → column new k ≡ column old k

-- each of the n columns from at on became f of it, and no other changed
pub record Become (at n : ℕ) (f : List ℕ → List ℕ) (old new : List (List ℕ)) : Type 0 where
  pub shape : map length new ≡ map length old
  pub inside : (k : ℕ) → k < n → column new (at + k) ≡ f (column old (at + k))
  pub below : (k : ℕ) → k < at → column new k ≡ column old k
  pub above : (k : ℕ) → at + n ≤ k → column new k ≡ column old k
