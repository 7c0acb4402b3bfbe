use Rattle.component_law.proofs.PhaseRuns.{no_command_is_ahead}
use Rattle.component_law.proofs.sent_laws.no_command_is_ahead.Goals as goal

pub returns : goal.returns
returns c = no_command_is_ahead c.each_step_is_sound.ensures c.each_step_raises_tags.ensures
