-- Vectors of 64 elements, and a slice that was overwritten in one block.
use Rattle.std.specs.Prelude.{◌≡◌, ℕ, ◌+◌, ◌*◌, ◌%◌, ◌<◌, ◌≤◌, List, length, slice_index}
use Rattle.gf256.specs.Field.{product}

-- v has 64 lanes, and lane k holds f k
pub record HasLanes (v : List ℕ) (f : ℕ → ℕ) : Type 0 where
  pub long : length v ≡ 64
  pub each : (k : ℕ) → k < 64 → slice_index v k ≡ f k

-- v holds c times each low half of a byte, once in each 16 lanes
abbrev pub HoldsLow : ℕ → List ℕ → Type 0
HoldsLow c v = HasLanes v (λ k. product c (k % 16))

-- v holds c times each high half of a byte, once in each 16 lanes
abbrev pub HoldsHigh : ℕ → List ℕ → Type 0
HoldsHigh c v = HasLanes v (λ k. product c (16 * (k % 16)))

-- the 64 elements from at on became f, and no other changed
pub record StoredAt (at : ℕ) (f : ℕ → ℕ) (old new : List ℕ) : Type 0 where
  pub long : length new ≡ length old
  pub inside : (k : ℕ) → k < 64 → slice_index new (at + k) ≡ f k
  pub below : (k : ℕ) → k < at → slice_index new k ≡ slice_index old k
  pub above : (k : ℕ) → at + 64 ≤ k → slice_index new k ≡ slice_index old k
