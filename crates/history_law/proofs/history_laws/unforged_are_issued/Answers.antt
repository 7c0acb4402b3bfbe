use Rattle.history_law.proofs.Unforged.{unforged_are_issued}
use Rattle.history_law.proofs.history_laws.unforged_are_issued.Goals as goal

pub returns : goal.returns
returns c = unforged_are_issued
