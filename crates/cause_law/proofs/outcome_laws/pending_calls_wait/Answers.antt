use Rattle.cause_law.proofs.AwaitingMoments.{pending_calls_wait}
use Rattle.cause_law.proofs.outcome_laws.pending_calls_wait.Goals as goal

pub returns : goal.returns
returns c = pending_calls_wait c.each_rest_awaits_something.ensures c.clients_agree.ensures
