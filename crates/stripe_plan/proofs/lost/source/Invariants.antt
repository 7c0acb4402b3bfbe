use Rattle.std.proofs.Common.{◌≡◌, ◌+◌, ◌-◌, ◌≤◌}
use Rattle.data_map.specs.Striping.{replicas}
use Rattle.stripe_plan.specs.Lost.{source_from, source}
use Rattle.stripe_plan.proofs.lost.source.Given as goal

abbrev pub invariant-loop-component : goal.invariant-loop-component
invariant-loop-component l = (l.first ≤ l.component)
    × (source_from l.fn.out.components l.component
    (l.first + replicas l.fn.map - l.component) ≡ source l.fn.map l.fn.out.components l.fn.position)
