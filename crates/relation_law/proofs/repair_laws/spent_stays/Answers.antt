use Rattle.relation_law.proofs.Growing.{spent_stays}
use Rattle.relation_law.proofs.repair_laws.spent_stays.Goals as goal

pub returns : goal.returns
returns c = spent_stays
