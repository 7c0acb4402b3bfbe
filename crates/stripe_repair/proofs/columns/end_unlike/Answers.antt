use Rattle.stripe_repair.proofs.UnlikeLaws.{first_before_end, end_inside, end_where_over}
use Rattle.stripe_repair.proofs.columns.end_unlike.Goals as goal

pub returns-clause-inside : goal.returns-clause-inside
returns-clause-inside c =
    rw (end_where_over c.args.xs.now c.args.ys.now c.loop-i.i c.loop-i.end c.loop-i-test.false c.loop-i.invariant)
    (end_inside c.args.xs.now c.args.ys.now)

pub returns-clause-behind : goal.returns-clause-behind
returns-clause-behind c =
    rw (end_where_over c.args.xs.now c.args.ys.now c.loop-i.i c.loop-i.end c.loop-i-test.false c.loop-i.invariant)
    (first_before_end c.args.xs.now c.args.ys.now)
