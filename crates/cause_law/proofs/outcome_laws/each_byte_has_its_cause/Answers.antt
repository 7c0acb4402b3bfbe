use Rattle.cause_law.proofs.ReadBytes.{each_byte_has_its_cause}
use Rattle.cause_law.proofs.outcome_laws.each_byte_has_its_cause.Goals as goal

pub returns : goal.returns
returns c = each_byte_has_its_cause
