use Rattle.relation_law.proofs.Growing.{drives_grow}
use Rattle.relation_law.proofs.repair_laws.drives_grow.Goals as goal

pub returns : goal.returns
returns c = drives_grow
