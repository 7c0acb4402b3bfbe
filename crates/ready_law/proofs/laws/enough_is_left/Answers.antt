use Rattle.ready_law.proofs.Enough.{enough_is_left}
use Rattle.ready_law.proofs.laws.enough_is_left.Goals as goal

pub returns : goal.returns
returns c = enough_is_left
