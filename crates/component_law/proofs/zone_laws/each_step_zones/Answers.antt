use Rattle.component_law.proofs.Zoned.{each_step_zones}
use Rattle.component_law.proofs.zone_laws.each_step_zones.Goals as goal

pub returns : goal.returns
returns c = each_step_zones
