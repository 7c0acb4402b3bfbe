use Rattle.std.proofs.Common.{arith, ◌+◌, ◌*◌, ◌%◌, ◌≤◌}
use Rattle.data_map.proofs.Striping.{row_start}
use Rattle.data_map.proofs.map.DataMap.place.Goals as goal

pub overflow_mul-result : goal.overflow_mul-result
overflow_mul-result c =
    let low : c.row.result * c.raw-unit.result.unit + (c.args.l % c.stripe_length-2.result) % c.raw-unit.result.unit ≤ c.args.l =
    rw (c.raw-unit.ensures.value, c.stripe_length-2.ensures.value)
    (row_start c.args.self.now c.args.l c.row.result c.raw-unit.ensures.usable
    (rw c.stripe_length.ensures.value at c.row.ensures.bound)) in
    omega (arith, low, c.ranges.l.fits)

pub overflow_add-result : goal.overflow_add-result
overflow_add-result c =
    let low : c.row.result * c.raw-unit.result.unit + (c.args.l % c.stripe_length-2.result) % c.raw-unit.result.unit ≤ c.args.l =
    rw (c.raw-unit.ensures.value, c.stripe_length-2.ensures.value)
    (row_start c.args.self.now c.args.l c.row.result c.raw-unit.ensures.usable
    (rw c.stripe_length.ensures.value at c.row.ensures.bound)) in
    omega (arith, low, c.ranges.l.fits)
