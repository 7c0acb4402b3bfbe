use Rattle.history_law.proofs.Ranges.{ranges_are_apart}
use Rattle.history_law.proofs.history_laws.ranges_are_apart.Goals as goal

pub returns : goal.returns
returns c = ranges_are_apart c.histories_are_safe.ensures
