use Rattle.cause_law.proofs.Files.{kept_answers_fit}
use Rattle.cause_law.proofs.ending_laws.kept_answers_fit.Goals as goal

pub returns : goal.returns
returns c = kept_answers_fit
