use Rattle.cause_law.proofs.Queue.{queue_is_due}
use Rattle.cause_law.proofs.pending_laws.queue_is_due.Goals as goal

pub returns : goal.returns
returns c = queue_is_due
