use Rattle.exchange_law.proofs.PlacedLaw.{held_given}
use Rattle.exchange_law.proofs.laws.held_grants_are_given.Goals as goal

pub returns : goal.returns
returns c = held_given
