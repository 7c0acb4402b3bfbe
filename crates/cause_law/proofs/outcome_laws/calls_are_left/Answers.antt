use Rattle.cause_law.proofs.PendingMoves.{each_call_is_left_so}
use Rattle.cause_law.proofs.outcome_laws.calls_are_left.Goals as goal

pub returns : goal.returns
returns c = each_call_is_left_so
