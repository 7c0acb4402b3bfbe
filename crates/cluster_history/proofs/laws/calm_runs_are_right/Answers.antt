use Rattle.cluster_history.proofs.Sounds.{calm_runs_are_right}
use Rattle.cluster_history.proofs.laws.calm_runs_are_right.Goals as goal

pub returns : goal.returns
returns c =
    calm_runs_are_right c.each_run_is_sound.ensures c.each_run_is_of_scenario.ensures c.unhit_runs_are_unguessed.ensures
