use Rattle.std.proofs.Common.{◌≡◌, ◌-◌, ◌++◌}
use Rattle.data_map.specs.Striping.{group_width}
use Rattle.stripe_plan.specs.Words.{lost_from}
use Rattle.stripe_plan.proofs.rows.lost_units.Given as goal

abbrev pub invariant-loop-unit : goal.invariant-loop-unit
invariant-loop-unit l =
    l.lost ++ lost_from l.fn.map l.fn.out.components l.fn.stripe l.unit
    (group_width l.fn.map - l.unit) ≡ lost_from l.fn.map l.fn.out.components l.fn.stripe 0 (group_width l.fn.map)
