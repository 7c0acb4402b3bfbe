use Rattle.client_rules.proofs.Others.{others_change_nothing}
use Rattle.client_rules.proofs.laws.others_change_nothing.Goals as goal

pub returns : goal.returns
returns c = others_change_nothing
