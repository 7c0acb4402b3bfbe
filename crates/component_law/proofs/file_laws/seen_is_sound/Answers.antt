use Rattle.component_law.proofs.SeenServer.{seen_is_sound}
use Rattle.component_law.proofs.file_laws.seen_is_sound.Goals as goal

pub returns : goal.returns
returns c = seen_is_sound
