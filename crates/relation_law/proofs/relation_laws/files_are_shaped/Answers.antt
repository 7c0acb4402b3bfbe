use Rattle.relation_law.proofs.BirthsShaped.{files_are_shaped}
use Rattle.relation_law.proofs.relation_laws.files_are_shaped.Goals as goal

pub returns : goal.returns
returns c = files_are_shaped
