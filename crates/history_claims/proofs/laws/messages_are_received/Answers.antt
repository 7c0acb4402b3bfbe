use Rattle.history_claims.proofs.Receiving.{messages_are_received}
use Rattle.history_claims.proofs.laws.messages_are_received.Goals as goal

pub returns : goal.returns
returns c = messages_are_received c.one_event_more.ensures
