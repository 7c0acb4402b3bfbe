use Rattle.layout_world.proofs.ServerActed.{same_state, heard_by}
use Rattle.layout_world.proofs.server.WorldServer.hear.Goals as goal

pub returns : goal.returns
returns g c =
    let d = c.in_ok-step.ensures in
    heard_by _ _ _ _ _ d.0 _ _ _ _ (same_state c.self.view_is) d.1 (λ s h. c.in_ok-did.ensures s h)
