use Rattle.history_law.proofs.Safe.{histories_are_safe}
use Rattle.history_law.proofs.history_laws.histories_are_safe.Goals as goal

pub returns : goal.returns
returns c = histories_are_safe c.each_step_is_safe.ensures
