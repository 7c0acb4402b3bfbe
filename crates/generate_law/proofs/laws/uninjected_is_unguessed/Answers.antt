use Rattle.generate_law.proofs.Guessing.{uninjected_is_unguessed}
use Rattle.generate_law.proofs.laws.uninjected_is_unguessed.Goals as goal

pub returns : goal.returns
returns c = uninjected_is_unguessed
