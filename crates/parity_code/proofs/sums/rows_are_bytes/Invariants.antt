use Rattle.std.proofs.Common.{ℕ, ◌<◌, get_or, take}
use Rattle.std.specs.List.{All}
use Rattle.parity_code.proofs.sums.rows_are_bytes.Given as goal

abbrev pub invariant-loop-row : goal.invariant-loop-row
invariant-loop-row l = All (λ row. (k : ℕ) → get_or row k 0 < 256) (take l.row-index l.rows)
