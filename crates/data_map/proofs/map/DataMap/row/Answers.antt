use Rattle.std.proofs.Common.{arith}
use Rattle.data_map.proofs.Numbers.{row_most}
use Rattle.data_map.proofs.map.DataMap.row.Goals as goal

pub overflow_add-result : goal.overflow_add-result
overflow_add-result c = omega (arith, row_most c.from-depth.result c.from.result c.args.stripe, c.ranges.stripe.fits)

pub returns-clause-bound : goal.returns-clause-bound
returns-clause-bound c = row_most c.from-depth.result c.from.result c.args.stripe
