use Rattle.std.proofs.Common.{◌≡◌, ◌++◌, drop}
use Rattle.stripe_plan.specs.Plans.{filled_each}
use Rattle.stripe_plan.proofs.plans.filled.Given as goal

abbrev pub invariant-loop-ask : goal.invariant-loop-ask
invariant-loop-ask l =
    l.stores.items ++ filled_each l.fn.columns (drop l.ask-index l.fn.asks) ≡ filled_each l.fn.columns l.fn.asks
