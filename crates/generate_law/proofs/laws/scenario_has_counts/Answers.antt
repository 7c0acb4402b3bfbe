use Rattle.generate_law.proofs.Counting.{scenario_has_counts}
use Rattle.generate_law.proofs.laws.scenario_has_counts.Goals as goal

pub returns : goal.returns
returns c = scenario_has_counts
