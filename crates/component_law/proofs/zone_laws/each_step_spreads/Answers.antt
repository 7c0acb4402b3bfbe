use Rattle.component_law.proofs.ZoneStepping.{each_step_spreads}
use Rattle.component_law.proofs.zone_laws.each_step_spreads.Goals as goal

pub returns : goal.returns
returns c = each_step_spreads
