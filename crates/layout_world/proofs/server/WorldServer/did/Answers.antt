use Rattle.std.proofs.Common.{refl}
use Rattle.layout_world.proofs.ServerActed.{same_state, acts_as}
use Rattle.layout_world.proofs.server.WorldServer.did.Goals as goal

pub returns : goal.returns
returns c = λ s d.
    acts_as c.args.step c.args.self.now.state s _ _ d (same_state c.self.view_is)
    c.in_ok-told.ensures c.in_ok-posts.ensures refl
