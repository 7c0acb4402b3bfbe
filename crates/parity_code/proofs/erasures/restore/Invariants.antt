use Rattle.std.proofs.Common.{◌*◌}
use Rattle.parity_code.specs.Columns.{Become}
use Rattle.parity_code.specs.Repairs.{repaired_column}
use Rattle.parity_code.proofs.erasures.restore.Given as goal

abbrev pub invariant-loop-b : goal.invariant-loop-b
invariant-loop-b l = Become 0 (64 * l.b) (repaired_column l.units l.first l.second) l.initial.rows l.rows

abbrev pub invariant-loop-k : goal.invariant-loop-k
invariant-loop-k l = Become 0 l.k (repaired_column l.units l.first l.second) l.fn.rows l.rows
