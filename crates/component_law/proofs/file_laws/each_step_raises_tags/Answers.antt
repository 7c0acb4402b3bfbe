use Rattle.component_law.proofs.Tags.{each_step_raises_tags}
use Rattle.component_law.proofs.file_laws.each_step_raises_tags.Goals as goal

pub returns : goal.returns
returns c = each_step_raises_tags
