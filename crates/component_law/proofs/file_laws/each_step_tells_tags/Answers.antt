use Rattle.component_law.proofs.FenceTags.{each_step_tells_tags}
use Rattle.component_law.proofs.file_laws.each_step_tells_tags.Goals as goal

pub returns : goal.returns
returns c = each_step_tells_tags
