use Rattle.name_law.proofs.ServerMoments.{server_sends_to_named}
use Rattle.name_law.proofs.laws.server_sends_to_named.Goals as goal

pub returns : goal.returns
returns c = server_sends_to_named c.one_event_more.ensures
