use Rattle.component_law.proofs.OriginLaw.{each_tag_was_sent}
use Rattle.component_law.proofs.tag_laws.each_tag_was_sent.Goals as goal

pub returns : goal.returns
returns c = each_tag_was_sent c.commands_are_issued.ensures c.unforged_are_issued.ensures
