use Rattle.std.proofs.Common.{take}
use Rattle.stripe_plan.specs.Plans.{columns_of}
use Rattle.stripe_plan.specs.Indexed.{stretches_of, Indexes}
use Rattle.stripe_plan.proofs.laid_bytes.index_parts.Given as goal

abbrev pub invariant-loop-part : goal.invariant-loop-part
invariant-loop-part l = Indexes (stretches_of (columns_of l.fn.map (take l.part-index l.fn.parts))) l.index
