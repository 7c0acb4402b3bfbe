use Rattle.name_law.proofs.ServerMoments.{server_leaves_nothing_out}
use Rattle.name_law.proofs.laws.server_leaves_nothing_out.Goals as goal

pub returns : goal.returns
returns c = server_leaves_nothing_out c.server_moves.ensures c.one_event_more.ensures
