use Rattle.std.proofs.Common.{arith}
use Rattle.server_requests.proofs.RowLaws.{rows_low}
use Rattle.server_requests.proofs.layouts.rows_in.Goals as goal

pub overflow_cast-result : goal.overflow_cast-result
overflow_cast-result c =
    let l = rows_low c.args.map.now c.args.group c.args.grant.now.first c.known.ensures in
    omega (arith, l, c.known.ensures.short_depth, c.rows_below-first.ensures, c.requires.rises, c.requires.end)

pub overflow_cast-result-then-first-end : goal.overflow_cast-result-then-first-end
overflow_cast-result-then-first-end c =
    let l = rows_low c.args.map.now c.args.group c.args.grant.now.end c.known.ensures in
    omega (arith, l, c.known.ensures.short_depth, c.rows_below-end.ensures, c.requires.end)

pub returns-then-first-end-clause-low : goal.returns-then-first-end-clause-low
returns-then-first-end-clause-low c =
    let l = rows_low c.args.map.now c.args.group c.args.grant.now.end c.known.ensures in
    (omega arith, omega (arith, l, c.known.ensures.short_depth, c.rows_below-end.ensures, c.requires.end))
