use Rattle.generate_law.proofs.Opening.{opening_rests}
use Rattle.generate_law.proofs.laws.opening_rests.Goals as goal

pub returns : goal.returns
returns c = opening_rests
