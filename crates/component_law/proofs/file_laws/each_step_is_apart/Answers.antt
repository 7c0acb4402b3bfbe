use Rattle.component_law.proofs.Placing.{each_step_is_apart}
use Rattle.component_law.proofs.file_laws.each_step_is_apart.Goals as goal

pub returns : goal.returns
returns c = each_step_is_apart
