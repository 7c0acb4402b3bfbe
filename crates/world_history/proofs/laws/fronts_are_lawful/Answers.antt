use Rattle.world_history.proofs.Closed.{fronts_are_lawful}
use Rattle.world_history.proofs.laws.fronts_are_lawful.Goals as goal

pub returns : goal.returns
returns c = fronts_are_lawful
