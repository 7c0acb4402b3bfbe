use Rattle.std.proofs.Common.{sym, ◌∙◌}
use Rattle.world_watch.proofs.Stepping.{headed}
use Rattle.world_watch.proofs.steps.see_headed.Goals as goal

pub returns-in_ok-see : goal.returns-in_ok-see
returns-in_ok-see g c =
    headed (g.S.KeptFiles.kept_of c.args.server.now) c.args.mended.now c.args.network.now.messages c.args.calm.now
    c.args.injected c.args.head.now c.args.rest.now c.performed_at-performed.result c.see.new.self
    (sym c.is_head.ensures ∙ c.if-is_head.true) c.performed_at-performed.ensures c.in_ok-see.ensures
