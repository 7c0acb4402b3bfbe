use Rattle.std.proofs.Common.{◌≡◌, ◌++◌, ◌-◌}
use Rattle.std.specs.List.{range_with_len}
use Rattle.stripe_plan.specs.Touched.{stripes}
use Rattle.stripe_plan.specs.Asks.{asks}
use Rattle.stripe_plan.proofs.requests.asks.Given as goal

abbrev pub invariant-loop-stripe : goal.invariant-loop-stripe
invariant-loop-stripe l =
    l.all ++ asks l.fn.aim l.fn.map l.fn.range l.fn.out.components l.fn.had (range_with_len l.stripe (l.end - l.stripe))
    ≡ asks l.fn.aim l.fn.map l.fn.range l.fn.out.components l.fn.had (stripes l.fn.map l.fn.range)
