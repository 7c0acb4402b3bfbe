use Rattle.std.proofs.Common.{arith}
use Rattle.std.proofs.Math.Nat.{le-mul_of_pos_right}
use Rattle.data_map.proofs.map.DataMap.part_in.Goals as goal

pub overflow_add-unit : goal.overflow_add-unit
overflow_add-unit c =
    omega (arith, le-mul_of_pos_right c.args.unit c.raw-length.ensures.usable.some_unit, c.requires.unit, c.requires.end)
