use Rattle.std.specs.Prelude.{refl}
use Rattle.std.proofs.lemmas.Result.{IfOk-weaker}
use Rattle.layout_world.proofs.ServerActed.{same_state, ordered_by}
use Rattle.layout_world.proofs.server.WorldServer.order.Goals as goal

pub returns : goal.returns
returns g c =
    let d = c.in_ok-step.ensures in
    IfOk-weaker c.did.result _ _ (λ act h.
    ordered_by _ _ _ _ c.args.kind c.args.target c.args.target d.0 _ act (same_state c.self.view_is) refl d.1 h) c.did.ensures
