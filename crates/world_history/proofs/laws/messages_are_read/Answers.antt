use Rattle.world_history.proofs.ReadMessages.{messages_are_read}
use Rattle.world_history.proofs.laws.messages_are_read.Goals as goal

pub returns : goal.returns
returns c = messages_are_read
