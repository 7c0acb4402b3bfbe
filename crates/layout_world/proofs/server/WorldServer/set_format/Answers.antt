use Rattle.std.proofs.Common.{ap, ◌∙◌}
use Rattle.server_rules.specs.Making.{set_format}
use Rattle.layout_world.specs.ServerState.{WorldServerState}
use Rattle.layout_world.proofs.ServerActed.{formatted}
use Rattle.layout_world.proofs.server.WorldServer.set_format.Goals as goal

pub returns-clause-state : goal.returns-clause-state
returns-clause-state c =
    formatted c.args.self.now.state c.set_format.new.self c.args.format
    (c.in_ok-set_format.ensures ∙ ap (λ (v : WorldServerState). set_format v.state c.args.format) c.self.view_is)
