use Rattle.exchange_law.proofs.LanesLaw.{lanes_are_own}
use Rattle.exchange_law.proofs.laws.lanes_are_own.Goals as goal

pub returns : goal.returns
returns c = lanes_are_own
