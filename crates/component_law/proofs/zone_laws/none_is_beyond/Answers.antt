use Rattle.component_law.proofs.Failing.{none_is_beyond}
use Rattle.component_law.proofs.zone_laws.none_is_beyond.Goals as goal

pub returns : goal.returns
returns c = none_is_beyond
