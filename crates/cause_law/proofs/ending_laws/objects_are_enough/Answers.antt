use Rattle.cause_law.proofs.Objects.{objects_are_enough}
use Rattle.cause_law.proofs.ending_laws.objects_are_enough.Goals as goal

pub returns : goal.returns
returns c = objects_are_enough c.answers_are_fit.ensures
