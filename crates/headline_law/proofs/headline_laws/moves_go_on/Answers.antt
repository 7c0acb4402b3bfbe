use Rattle.headline_law.proofs.Whole.{moves_go_on}
use Rattle.headline_law.proofs.headline_laws.moves_go_on.Goals as goal

pub returns : goal.returns
returns c = moves_go_on c.histories_are_lawful.ensures c.machine_is_lawful.ensures
