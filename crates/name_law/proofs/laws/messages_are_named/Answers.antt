use Rattle.name_law.proofs.DriveReplies.{messages_named}
use Rattle.name_law.proofs.laws.messages_are_named.Goals as goal

pub returns : goal.returns
returns c = messages_named c.one_event_more.ensures
