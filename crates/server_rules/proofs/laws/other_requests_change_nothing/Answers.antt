use Rattle.server_rules.proofs.SlotLaws.{others_change_nothing}
use Rattle.server_rules.proofs.laws.other_requests_change_nothing.Goals as goal

pub returns : goal.returns
returns c = others_change_nothing
