use Rattle.std.proofs.Common.{take}
use Rattle.stripe_plan.specs.Indexed.{Indexes}
use Rattle.stripe_plan.proofs.left.index_stretches.Given as goal

abbrev pub invariant-loop-stretch : goal.invariant-loop-stretch
invariant-loop-stretch l = Indexes (take l.stretch-index l.fn.had) l.index
