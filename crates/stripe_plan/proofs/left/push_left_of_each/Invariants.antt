use Rattle.std.proofs.Common.{◌≡◌, ◌++◌, drop, map}
use Rattle.stripe_plan.specs.Asks.{at_row, without_each}
use Rattle.stripe_plan.proofs.left.push_left_of_each.Given as goal

abbrev pub invariant-loop-interval : goal.invariant-loop-interval
invariant-loop-interval l =
    l.left ++ without_each l.fn.had l.fn.position (map (at_row l.fn.map l.fn.stripe) (drop l.interval-index l.fn.columns))
    ≡ l.fn.left ++ without_each l.fn.had l.fn.position (map (at_row l.fn.map l.fn.stripe) l.fn.columns)
