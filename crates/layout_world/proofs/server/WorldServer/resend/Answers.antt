use Rattle.std.proofs.Common.{ap, ◌∙◌}
use Rattle.server_rules.specs.Messages.{resend}
use Rattle.server_requests.specs.Sending.{all_sent}
use Rattle.layout_world.specs.ServerState.{WorldServerState}
use Rattle.layout_world.proofs.ServerActed.{resent}
use Rattle.layout_world.proofs.server.WorldServer.resend.Goals as goal

pub returns : goal.returns
returns c =
    resent c.args.self.now.state c.in_ok-sends.sends _
    (c.in_ok-sends.ensures ∙ ap (λ (v : WorldServerState). all_sent (resend v.state)) c.self.view_is) c.new.ensures
    c.in_ok-postings.ensures
