use Rattle.layout_world.proofs.ServerActed.{same_state, crashed_by}
use Rattle.layout_world.proofs.server.WorldServer.crash.Goals as goal

pub returns : goal.returns
returns c =
    crashed_by c.args.self.now.state _ _ _ (same_state c.self.view_is) c.in_ok-crash.ensures c.new.ensures
    c.nothing.ensures
