use Rattle.exchange_law.proofs.RightSteps.{reads_are_right}
use Rattle.exchange_law.proofs.laws.reads_are_right.Goals as goal

pub returns : goal.returns
returns c = reads_are_right
