use Rattle.world_history.proofs.Pending.{next_is_lowest}
use Rattle.world_history.proofs.laws.next_is_lowest.Goals as goal

pub returns : goal.returns
returns c = next_is_lowest
