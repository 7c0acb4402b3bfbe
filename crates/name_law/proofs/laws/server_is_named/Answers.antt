use Rattle.name_law.proofs.ServerMoments.{server_is_named}
use Rattle.name_law.proofs.laws.server_is_named.Goals as goal

pub returns : goal.returns
returns c = server_is_named c.one_event_more.ensures
