use Rattle.std.proofs.Common.{◌≡◌, ◌-◌, ◌++◌, map}
use Rattle.std.specs.List.{range_with_len}
use Rattle.data_map.specs.Striping.{group_width}
use Rattle.stripe_plan.specs.Words.{known_in, known_rows}
use Rattle.stripe_plan.specs.Plans.{columns_of}
use Rattle.stripe_plan.proofs.rows.known_rows.Given as goal

abbrev pub invariant-loop-unit : goal.invariant-loop-unit
invariant-loop-unit l =
    l.rows ++ map (known_in l.fn.map (columns_of l.fn.map l.fn.got) l.fn.out.components l.fn.stripe l.fn.columns)
    (range_with_len l.unit (group_width l.fn.map - l.unit))
    ≡ known_rows l.fn.map (columns_of l.fn.map l.fn.got) l.fn.out.components l.fn.stripe l.fn.columns
