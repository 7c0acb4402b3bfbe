use Rattle.cause_law.proofs.Runs.{outcomes_are_caused}
use Rattle.cause_law.proofs.outcome_laws.outcomes_are_caused.Goals as goal

pub returns : goal.returns
returns c = outcomes_are_caused
