use Rattle.std.proofs.Common.{◌≡◌, ◌++◌, ◌+◌, ◌-◌}
use Rattle.data_map.specs.Striping.{replicas}
use Rattle.stripe_plan.specs.declared.plan.Aim.TheVariants.{Scatters}
use Rattle.stripe_plan.specs.Asks.{asks_each, asks_position}
use Rattle.stripe_plan.proofs.requests.push_each.Given as goal

abbrev pub invariant-loop-component : goal.invariant-loop-component
invariant-loop-component l =
    l.asks ++ asks_each l.fn.out.components l.fn.stripe l.fn.position l.component
    (l.first + replicas l.fn.map - l.component) l.fn.bytes
    ≡ l.fn.asks ++ asks_position Scatters l.fn.map l.fn.out.components l.fn.stripe l.fn.position l.fn.bytes
