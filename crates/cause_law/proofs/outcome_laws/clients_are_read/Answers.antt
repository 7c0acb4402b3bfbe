use Rattle.cause_law.proofs.CallHistories.{clients_are_read}
use Rattle.cause_law.proofs.outcome_laws.clients_are_read.Goals as goal

pub returns : goal.returns
returns c = clients_are_read
