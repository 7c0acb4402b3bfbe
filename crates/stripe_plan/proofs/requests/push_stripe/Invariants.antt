use Rattle.std.proofs.Common.{◌≡◌, ◌++◌, ◌-◌}
use Rattle.data_map.specs.Striping.{group_width}
use Rattle.stripe_plan.specs.Asks.{asks_stripe}
use Rattle.stripe_plan.proofs.requests.push_stripe.Given as goal

abbrev pub invariant-loop-place : goal.invariant-loop-place
invariant-loop-place l =
    l.asks ++ asks_stripe l.fn.request.aim l.fn.request.map.now l.fn.request.range l.fn.request.out.now.components
    l.fn.request.had.now l.fn.stripe l.place (group_width l.fn.request.map.now - l.place)
    ≡ l.fn.asks ++ asks_stripe l.fn.request.aim l.fn.request.map.now l.fn.request.range l.fn.request.out.now.components
    l.fn.request.had.now l.fn.stripe 0 (group_width l.fn.request.map.now)
