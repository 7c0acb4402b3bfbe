use Rattle.component_law.proofs.PhaseRuns.{tags_stay_within}
use Rattle.component_law.proofs.sent_laws.tags_stay_within.Goals as goal

pub returns : goal.returns
returns c = tags_stay_within c.each_step_is_sound.ensures c.each_step_raises_tags.ensures
