use Rattle.ready_law.proofs.Losses.{borne_is_enough}
use Rattle.ready_law.proofs.laws.borne_is_enough.Goals as goal

pub returns : goal.returns
returns c = borne_is_enough
