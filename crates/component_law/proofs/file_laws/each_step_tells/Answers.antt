use Rattle.component_law.proofs.Making.{each_step_tells}
use Rattle.component_law.proofs.file_laws.each_step_tells.Goals as goal

pub returns : goal.returns
returns c = each_step_tells
