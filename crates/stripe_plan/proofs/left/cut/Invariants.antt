use Rattle.std.proofs.Common.{◌≡◌, ◌++◌, drop}
use Rattle.std.specs.Prelude.{flat_map}
use Rattle.stripe_plan.specs.Asks.{cut}
use Rattle.stripe_plan.proofs.left.cut.Given as goal

abbrev pub invariant-loop-interval : goal.invariant-loop-interval
invariant-loop-interval l =
    l.left ++ flat_map (cut l.fn.stretch) (drop l.interval-index l.fn.intervals) ≡ flat_map (cut l.fn.stretch) l.fn.intervals
