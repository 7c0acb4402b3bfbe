use Rattle.cluster_history.proofs.Sounds.{unhit_runs_are_unguessed}
use Rattle.cluster_history.proofs.laws.unhit_runs_are_unguessed.Goals as goal

pub returns : goal.returns
returns c = unhit_runs_are_unguessed
