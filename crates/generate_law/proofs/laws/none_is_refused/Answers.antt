use Rattle.generate_law.proofs.Refusing.{none_is_refused}
use Rattle.generate_law.proofs.laws.none_is_refused.Goals as goal

pub returns : goal.returns
returns c = none_is_refused c.drives_are_read.ensures c.clients_are_read.ensures c.down_is_read.ensures
