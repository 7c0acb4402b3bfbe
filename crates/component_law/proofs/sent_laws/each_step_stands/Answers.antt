use Rattle.component_law.proofs.StandSteps.{each_step_stands}
use Rattle.component_law.proofs.sent_laws.each_step_stands.Goals as goal

pub returns : goal.returns
returns c = each_step_stands
