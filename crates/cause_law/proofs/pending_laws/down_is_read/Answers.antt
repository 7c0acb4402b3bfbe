use Rattle.cause_law.proofs.Down.{down_is_read}
use Rattle.cause_law.proofs.pending_laws.down_is_read.Goals as goal

pub returns : goal.returns
returns c = down_is_read c.one_event_more.ensures
