use Rattle.cluster_history.proofs.Sounds.{each_run_is_of_scenario}
use Rattle.cluster_history.proofs.laws.each_run_is_of_scenario.Goals as goal

pub returns : goal.returns
returns c = each_run_is_of_scenario c.each_run_has_a_history.ensures c.messages_are_read.ensures
