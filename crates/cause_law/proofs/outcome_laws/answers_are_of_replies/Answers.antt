use Rattle.cause_law.proofs.Read.{answers_are_of_replies}
use Rattle.cause_law.proofs.outcome_laws.answers_are_of_replies.Goals as goal

pub returns : goal.returns
returns c = answers_are_of_replies
