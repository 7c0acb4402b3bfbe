use Rattle.plan_law.proofs.Starts.{written_words_are_known}
use Rattle.plan_law.proofs.laws.written_words_are_known.Goals as goal

pub returns : goal.returns
returns c = written_words_are_known
