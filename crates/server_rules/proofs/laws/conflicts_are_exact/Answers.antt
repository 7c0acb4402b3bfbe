use Rattle.server_rules.proofs.GrantLaws.{exact}
use Rattle.server_rules.proofs.laws.conflicts_are_exact.Goals as goal

pub returns : goal.returns
returns c = exact
