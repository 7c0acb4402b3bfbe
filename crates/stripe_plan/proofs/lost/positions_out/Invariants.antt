use Rattle.std.proofs.Common.{◌≡◌, ◌+◌, ◌-◌, ◌++◌}
use Rattle.data_map.specs.Striping.{group_width, group_of}
use Rattle.stripe_plan.specs.Lost.{out_from, positions_out}
use Rattle.stripe_plan.proofs.lost.positions_out.Given as goal

abbrev pub invariant-loop-position : goal.invariant-loop-position
invariant-loop-position l =
    l.lost ++ out_from l.fn.map l.fn.out.components l.position
    (l.first + group_width l.fn.map - l.position) ≡ positions_out l.fn.map l.fn.out.components (group_of l.fn.map l.fn.stripe)
