use Rattle.std.proofs.Common.{arith}
use Rattle.layout_world.proofs.Delivered.{delivers_none, delivered}
use Rattle.layout_world.proofs.delivering.deliver.Goals as goal

pub returns-then-number-len-clause-acts : goal.returns-then-number-len-clause-acts
returns-then-number-len-clause-acts g c =
    rw c.nothing.ensures (delivers_none c.args.parties.now c.args.number (omega (arith, c.if-number-len.true, c.len.ensures)))

pub returns-clause-acts : goal.returns-clause-acts
returns-clause-acts g c =
    delivered c.network_shows.ensures.marks c.args.parties.now c.hand.new.parties c.deliver.new.self c.args.number
    c.in_ok-handed.handed c.in_ok-act.act c.deliver.ensures (omega (arith, c.if-number-len.false, c.len.ensures))
    c.in_ok-handed.ensures.handed c.in_ok-act.ensures
