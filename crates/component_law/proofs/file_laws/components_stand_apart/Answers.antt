use Rattle.component_law.proofs.OnDrives.{components_stand_apart}
use Rattle.component_law.proofs.file_laws.components_stand_apart.Goals as goal

pub returns : goal.returns
returns c = components_stand_apart c.each_step_is_sound.ensures c.each_step_is_apart.ensures
