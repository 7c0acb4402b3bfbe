use Rattle.std.proofs.lemmas.Result.{IfOk-weaker}
use Rattle.layout_world.proofs.ServerActed.{same_state, opened_by}
use Rattle.layout_world.proofs.server.WorldServer.reopen.Goals as goal

pub returns : goal.returns
returns c =
    IfOk-weaker c.did.result _ _ (λ act h. opened_by _ _ _ _ _ act (same_state c.self.view_is) c.in_ok-step.ensures h)
    c.did.ensures
