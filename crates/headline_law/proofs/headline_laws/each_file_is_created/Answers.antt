use Rattle.headline_law.proofs.BirthWorld.{each_file_is_created}
use Rattle.headline_law.proofs.Histories.{births}
use Rattle.headline_law.proofs.Relation.{low}
use Rattle.headline_law.proofs.headline_laws.each_file_is_created.Goals as goal

pub returns : goal.returns
returns c = each_file_is_created (births c.histories_are_lawful.ensures (low c.histories_are_lawful.ensures))
