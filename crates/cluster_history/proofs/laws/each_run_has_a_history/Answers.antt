use Rattle.cluster_history.proofs.Runs.{each_run_has_a_history}
use Rattle.cluster_history.proofs.laws.each_run_has_a_history.Goals as goal

pub returns : goal.returns
returns c = each_run_has_a_history
