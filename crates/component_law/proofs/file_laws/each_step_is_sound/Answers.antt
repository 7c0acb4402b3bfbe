use Rattle.component_law.proofs.Making.{each_step_is_sound}
use Rattle.component_law.proofs.file_laws.each_step_is_sound.Goals as goal

pub returns : goal.returns
returns c = each_step_is_sound
