use Rattle.history_law.proofs.Ending.{reached_refuses}
use Rattle.history_law.proofs.fencing_laws.reached_refuses.Goals as goal

pub returns : goal.returns
returns c = reached_refuses
