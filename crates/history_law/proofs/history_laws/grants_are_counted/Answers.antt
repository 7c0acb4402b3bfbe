use Rattle.history_law.proofs.Counting.{grants_are_counted}
use Rattle.history_law.proofs.history_laws.grants_are_counted.Goals as goal

pub returns : goal.returns
returns c = grants_are_counted
