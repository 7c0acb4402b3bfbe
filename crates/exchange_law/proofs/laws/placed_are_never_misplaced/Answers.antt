use Rattle.exchange_law.proofs.PlaceVerdicts.{never_misplaced}
use Rattle.exchange_law.proofs.laws.placed_are_never_misplaced.Goals as goal

pub returns : goal.returns
returns c = never_misplaced
