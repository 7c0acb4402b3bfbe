use Rattle.std.proofs.Common.{◌∙◌}
use Rattle.call_io.specs.Phases.{phase_of}
use Rattle.call_io.proofs.Ends.{ok_same, stays_in}
use Rattle.call_io.proofs.Heard.{found, unheard}
use Rattle.call_io.proofs.replies.reply_in.Goals as goal

pub returns-in-Some : goal.returns-in-Some
returns-in-Some c = ok_same c.take_answer.result c.args.held.now _ _
    (found c.args.held.now c.args.op.now (phase_of c.args.phase)
    (phase_of c.take.new.phase) c.in-Some.awaited c.args.reply c.take.result _ c.take.ensures.found c.in-Some.is
    c.take.ensures.left)
    c.take_answer.ensures

pub returns-in-None : goal.returns-in-None
returns-in-None c =
    stays_in c.args.held.now c.take.new.phase c.without_sends.result c.without_sends.ensures.turn c.without_sends.ensures.sent
    ∙ unheard c.args.held.now c.args.op.now (phase_of c.args.phase)
    (phase_of c.take.new.phase) c.args.reply c.take.result _ c.take.ensures.found c.in-None.is c.take.ensures.left
