use Rattle.cluster_history.proofs.CalmRuns.{lossless_runs_are_calm}
use Rattle.cluster_history.proofs.laws.lossless_runs_are_calm.Goals as goal

pub returns : goal.returns
returns c =
    lossless_runs_are_calm c.each_run_has_a_history.ensures c.each_run_is_of_scenario.ensures c.lossless_is_calm.ensures
