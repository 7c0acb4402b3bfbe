use Rattle.exchange_law.proofs.FairLanes.{lanes_are_fair}
use Rattle.exchange_law.proofs.laws.lanes_are_fair.Goals as goal

pub returns : goal.returns
returns c = lanes_are_fair
