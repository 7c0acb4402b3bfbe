use Rattle.generate_law.proofs.Refusing.{scenario_is_unguessed}
use Rattle.generate_law.proofs.laws.scenario_is_unguessed.Goals as goal

pub returns : goal.returns
returns c = scenario_is_unguessed
