use Rattle.std.proofs.Common.{take}
use Rattle.stripe_plan.specs.Indexed.{stretches_of, Indexes}
use Rattle.stripe_plan.proofs.laid_bytes.index_columns.Given as goal

abbrev pub invariant-loop-column : goal.invariant-loop-column
invariant-loop-column l = Indexes (stretches_of (take l.column-index l.fn.columns)) l.index
