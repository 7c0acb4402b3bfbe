use Rattle.server_rules.proofs.SlotLaws.{count_on}
use Rattle.server_rules.proofs.laws.requests_are_carried_out_in_order.Goals as goal

pub returns : goal.returns
returns c = count_on
