use Rattle.client_rules.proofs.OneWrite.{one_write_each}
use Rattle.client_rules.proofs.laws.one_write_each.Goals as goal

pub returns : goal.returns
returns c = one_write_each
