use Rattle.std.proofs.Common.{ap, ◌∙◌}
use Rattle.server_requests.specs.Sending.{all_sent}
use Rattle.server_state.specs.States.{server_of}
use Rattle.layout_server.proofs.ResendLaws.{all_resent}
use Rattle.layout_server.proofs.resends.resend.Goals as goal

pub returns : goal.returns
returns c = (rw (c.new-sends.ensures, c.as_slice-drives.ensures) at c.in_ok-resend_all.ensures)
    ∙ ap all_sent (all_resent (server_of c.args.state.now))
