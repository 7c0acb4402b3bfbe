use Rattle.cause_law.proofs.Objects.{places_are_enough}
use Rattle.cause_law.proofs.ending_laws.places_are_enough.Goals as goal

pub returns : goal.returns
returns c = places_are_enough c.objects_are_enough.ensures c.nonces_are_enough.ensures
