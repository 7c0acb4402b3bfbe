use Rattle.std.proofs.Common.{◌≡◌, ◌-◌}
use Rattle.data_map.specs.Striping.{data_units}
use Rattle.stripe_plan.specs.Lost.{hit_from, is_hit}
use Rattle.stripe_plan.proofs.lost.is_hit.Given as goal

abbrev pub invariant-loop-unit : goal.invariant-loop-unit
invariant-loop-unit l =
    hit_from l.fn.map l.fn.range l.fn.out.components l.fn.stripe l.unit
    (data_units l.fn.map - l.unit) ≡ is_hit l.fn.map l.fn.range l.fn.out.components l.fn.stripe
