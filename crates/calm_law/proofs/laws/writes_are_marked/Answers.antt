use Rattle.calm_law.proofs.Performing.{writes_mark}
use Rattle.calm_law.proofs.laws.writes_are_marked.Goals as goal

pub returns : goal.returns
returns c = writes_mark
