use Rattle.history_law.proofs.Running.{grants_are_safe}
use Rattle.history_law.proofs.history_laws.grants_are_safe.Goals as goal

pub returns : goal.returns
returns c = grants_are_safe c.every_run_is_safe.ensures
