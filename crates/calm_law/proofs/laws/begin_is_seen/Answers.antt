use Rattle.calm_law.proofs.Flagging.{begin_is_seen}
use Rattle.calm_law.proofs.laws.begin_is_seen.Goals as goal

pub returns : goal.returns
returns c = begin_is_seen
