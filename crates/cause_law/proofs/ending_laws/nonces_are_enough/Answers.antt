use Rattle.cause_law.proofs.NonceWorlds.{nonces_are_enough}
use Rattle.cause_law.proofs.ending_laws.nonces_are_enough.Goals as goal

pub returns : goal.returns
returns c = nonces_are_enough c.answers_are_fit.ensures
