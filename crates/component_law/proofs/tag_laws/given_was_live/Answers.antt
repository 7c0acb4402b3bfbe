use Rattle.component_law.proofs.HandedLaw.{each_given_was_live}
use Rattle.component_law.proofs.tag_laws.given_was_live.Goals as goal

pub returns : goal.returns
returns c = each_given_was_live c.answers_are_live.ensures
