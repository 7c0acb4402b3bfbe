use Rattle.component_law.proofs.Failing.{one_zone_is_borne}
use Rattle.component_law.proofs.zone_laws.one_zone_is_borne.Goals as goal

pub returns : goal.returns
returns c = one_zone_is_borne
