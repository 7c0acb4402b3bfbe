use Rattle.history_law.proofs.Touching.{touches_its_own}
use Rattle.history_law.proofs.history_laws.performed_touches_its_own.Goals as goal

pub returns : goal.returns
returns c = touches_its_own
