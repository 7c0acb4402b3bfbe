use Rattle.history_law.proofs.Ending.{fences_end}
use Rattle.history_law.proofs.fencing_laws.fences_end.Goals as goal

pub returns : goal.returns
returns c = fences_end
