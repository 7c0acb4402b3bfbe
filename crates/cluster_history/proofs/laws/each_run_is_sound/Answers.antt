use Rattle.cluster_history.proofs.Sounds.{each_run_is_sound}
use Rattle.cluster_history.proofs.laws.each_run_is_sound.Goals as goal

pub returns : goal.returns
returns c = each_run_is_sound c.each_run_has_a_history.ensures c.histories_are_sound.ensures
