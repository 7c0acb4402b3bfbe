use Rattle.std.proofs.Common.{◌≡◌, ◌++◌, ◌+◌, ◌-◌}
use Rattle.data_map.specs.Striping.{group_width}
use Rattle.stripe_plan.specs.Lost.{out_from}
use Rattle.call_io.proofs.probing.lost_beside.Given as goal

abbrev pub invariant-loop-other : goal.invariant-loop-other
invariant-loop-other l =
    l.lost ++ out_from l.fn.map l.fn.out.components l.other (l.first + group_width l.fn.map - l.other)
    ≡ out_from l.fn.map l.fn.out.components l.first (group_width l.fn.map)
