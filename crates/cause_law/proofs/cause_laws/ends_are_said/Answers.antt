use Rattle.cause_law.proofs.Saying.{each_end_is_said}
use Rattle.cause_law.proofs.cause_laws.ends_are_said.Goals as goal

pub returns : goal.returns
returns c = each_end_is_said
