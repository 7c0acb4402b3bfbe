use Rattle.std.proofs.Common.{◌≡◌, ℕ, ◌*◌, ◌%◌, ◌<◌, get_or, length}
use Rattle.gf256.specs.Field.{product}
use Rattle.gf256.proofs.lanes.ProductTables.new.Given as goal

abbrev pub invariant-loop-k : goal.invariant-loop-k
invariant-loop-k l =
    (length l.low ≡ 64)
    × (length l.high ≡ 64)
    × ((j : ℕ) → j < l.k → get_or l.low j 0 ≡ product l.c (j % 16))
    × ((j : ℕ) → j < l.k → get_or l.high j 0 ≡ product l.c (16 * (j % 16)))
