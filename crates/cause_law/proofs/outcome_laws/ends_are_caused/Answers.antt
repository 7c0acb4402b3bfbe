use Rattle.cause_law.proofs.CallHistories.{ends_are_caused}
use Rattle.cause_law.proofs.outcome_laws.ends_are_caused.Goals as goal

pub returns : goal.returns
returns c = ends_are_caused
