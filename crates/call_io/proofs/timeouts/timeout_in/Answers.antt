use Rattle.std.proofs.Common.{sym, ◌∙◌}
use Rattle.call_io.specs.Phases.{phase_of}
use Rattle.call_io.proofs.Ends.{ok_same, stays_in}
use Rattle.call_io.proofs.Heard.{silent, unasked}
use Rattle.call_io.proofs.timeouts.timeout_in.Goals as goal

pub returns-in-None : goal.returns-in-None
returns-in-None c =
    stays_in c.args.held.now c.args.phase c.without_sends.result c.without_sends.ensures.turn c.without_sends.ensures.sent
    ∙ unasked c.args.held.now c.args.op.now (phase_of c.args.phase) c.args.component _ (sym c.first_to.ensures ∙ c.in-None.is)

pub returns-in_ok-put_out_in-in-Some : goal.returns-in_ok-put_out_in-in-Some
returns-in_ok-put_out_in-in-Some c = ok_same c.go_on_without.result c.args.held.now _ _
    (silent c.args.held.now c.args.op.now (phase_of c.args.phase)
    (phase_of c.put_out_in.new.phase) c.args.component c.in-Some.first _
    (sym c.first_to.ensures ∙ c.in-Some.is) c.in_ok-put_out_in-in-Some.ensures)
    c.go_on_without.ensures
