use Rattle.data_map.proofs.Checks.{checked_again}
use Rattle.data_map.proofs.map.DataMap.raw.Goals as goal

pub returns-clause-again : goal.returns-clause-again
returns-clause-again c = checked_again _ c.self.invariant.0
