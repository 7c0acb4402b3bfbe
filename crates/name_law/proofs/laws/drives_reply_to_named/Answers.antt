use Rattle.name_law.proofs.DriveReplies.{replies_named}
use Rattle.name_law.proofs.laws.drives_reply_to_named.Goals as goal

pub returns : goal.returns
returns c = replies_named c.one_event_more.ensures
