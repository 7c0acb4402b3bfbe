use Rattle.std.proofs.Common.{◌≡◌, ◌++◌, ◌-◌}
use Rattle.std.specs.List.{range_with_len}
use Rattle.data_map.specs.Striping.{positions}
use Rattle.call_io.proofs.probing.all_positions.Given as goal

abbrev pub invariant-loop-position : goal.invariant-loop-position
invariant-loop-position l =
    l.all ++ range_with_len l.position (positions l.fn.map - l.position) ≡ range_with_len 0 (positions l.fn.map)
