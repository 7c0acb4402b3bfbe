use Rattle.std.proofs.Common.{◌≡◌, ◌++◌, drop}
use Rattle.stripe_plan.specs.Asks.{asks_of}
use Rattle.stripe_plan.proofs.requests.push_component.Given as goal

abbrev pub invariant-loop-interval : goal.invariant-loop-interval
invariant-loop-interval l =
    l.asks ++ asks_of l.fn.stripe l.fn.position l.fn.component
    (drop l.interval-index l.fn.bytes) ≡ l.fn.asks ++ asks_of l.fn.stripe l.fn.position l.fn.component l.fn.bytes
