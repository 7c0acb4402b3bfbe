use Rattle.cause_law.proofs.Answers.{answers_are_fit}
use Rattle.cause_law.proofs.ending_laws.answers_are_fit.Goals as goal

pub returns : goal.returns
returns c = answers_are_fit c.messages_fit.ensures
