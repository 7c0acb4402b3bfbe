use Rattle.history_law.proofs.Goes.{moves_are_steps}
use Rattle.exchange_law.proofs.laws.moves_are_steps.Goals as goal

pub returns : goal.returns
returns c = moves_are_steps
