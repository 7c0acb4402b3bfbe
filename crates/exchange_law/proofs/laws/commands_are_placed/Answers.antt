use Rattle.exchange_law.proofs.PlacedLaw.{commands_placed}
use Rattle.exchange_law.proofs.laws.commands_are_placed.Goals as goal

pub returns : goal.returns
returns c = commands_placed
