use Rattle.cluster_history.proofs.CalmRuns.{lossless_runs_are_right}
use Rattle.cluster_history.proofs.laws.lossless_runs_are_right.Goals as goal

pub returns : goal.returns
returns c = lossless_runs_are_right c.lossless_runs_are_calm.ensures c.calm_runs_are_right.ensures
