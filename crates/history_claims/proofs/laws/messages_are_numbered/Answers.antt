use Rattle.history_claims.proofs.Numbers.{messages_are_numbered}
use Rattle.history_claims.proofs.laws.messages_are_numbered.Goals as goal

pub returns : goal.returns
returns c = messages_are_numbered c.one_event_more.ensures
