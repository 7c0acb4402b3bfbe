use Rattle.world_history.proofs.Histories.{full_is_cut}
use Rattle.world_history.proofs.laws.full_is_cut.Goals as goal

pub returns : goal.returns
returns c = full_is_cut
