use Rattle.history_law.proofs.Answering.{verdicts_are_answered}
use Rattle.history_law.proofs.history_laws.verdicts_are_answered.Goals as goal

pub returns : goal.returns
returns c = verdicts_are_answered c.histories_are_safe.ensures
