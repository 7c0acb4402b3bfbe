use Rattle.component_law.proofs.Within.{performed_stay_within}
use Rattle.component_law.proofs.sent_laws.performed_stay_within.Goals as goal

pub returns : goal.returns
returns c = performed_stay_within
