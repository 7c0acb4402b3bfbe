use Rattle.history_law.proofs.Inputs.{placed_is_chosen}
use Rattle.history_law.proofs.history_laws.placed_is_chosen.Goals as goal

pub returns : goal.returns
returns c = placed_is_chosen
