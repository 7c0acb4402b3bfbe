-- The tables of one element's products.
use Rattle.std.specs.Prelude.{ℕ}
use Rattle.gf256.specs.Lanes.{HoldsLow, HoldsHigh}
use Rattle.gf256.specs.declared.lanes.ProductTables.{ProductTables}

-- the tables are those of c
pub record HasProducts (c : ℕ) (t : ProductTables) : Type 0 where
  pub low : HoldsLow c t.low
  pub high : HoldsHigh c t.high
