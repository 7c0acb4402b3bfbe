-- Stripes whose lost rows came back.
use Rattle.std.specs.Prelude.{◌≡◌, ℕ, ◌+◌, ◌<◌, ◌≤◌, List, length, map, slice_get}
use Rattle.std.specs.List.{All, Contains}
use Rattle.parity_code.specs.Parity.{column}
use Rattle.parity_code.specs.Codeword.{width_of, AgreeOutside}
use Rattle.parity_code.specs.Syndromes.{IsWhole, HasNoSyndrome}
use Rattle.parity_code.specs.Decoding.{decoded}

-- a stripe with data and one or two rows of parity
pub record HasParity (units : ℕ) (rows : List (List ℕ)) : Type 0 where
  pub data_rows : 0 < units
  pub some : units + 1 ≤ length rows
  pub most : length rows ≤ units + 2
  pub few : units ≤ 255
  pub even : All (λ row. length row ≡ width_of rows) rows

-- whatever was whole before rows were lost is whole again, and the other rows are as they were. With as many rows
-- lost as there are rows of parity, every column is whole.
pub record Restored (units : ℕ) (lost : List ℕ) (old new : List (List ℕ)) : Type 0 where
  pub shape : map length new ≡ map length old
  pub exact : (k : ℕ) → k < width_of old → column new k ≡ decoded units lost (column old k)
  pub kept : (j : ℕ) → ¬ Contains lost j → slice_get new j ≡ slice_get old j
  pub whole : (k : ℕ) (col : List ℕ) → k < width_of old → IsWhole units col → AgreeOutside lost col (column old k) →
      column new k ≡ col
  pub solved : length old ≡ units + length lost → (k : ℕ) → k < width_of old → HasNoSyndrome units (column new k)
