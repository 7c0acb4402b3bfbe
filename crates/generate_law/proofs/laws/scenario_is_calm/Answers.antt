use Rattle.generate_law.proofs.Calmness.{scenario_is_calm}
use Rattle.generate_law.proofs.laws.scenario_is_calm.Goals as goal

pub returns : goal.returns
returns c = scenario_is_calm c.lossless_is_calm.ensures
