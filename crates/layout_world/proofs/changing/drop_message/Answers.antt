use Rattle.std.proofs.Common.{arith}
use Rattle.layout_world.proofs.Delivered.{drops, drops_none}
use Rattle.layout_world.proofs.changing.drop_message.Goals as goal

pub returns-then-number-len : goal.returns-then-number-len
returns-then-number-len c =
    rw c.nothing-act.ensures
    (drops_none c.args.parties.now c.args.number (omega (arith, c.if-number-len.true, c.len.ensures)))

pub returns : goal.returns
returns c =
    rw c.nothing-act.ensures
    (drops c.network_shows.ensures.marks c.args.parties.now c.drop_message.new.self c.args.number c.drop_message.ensures)
