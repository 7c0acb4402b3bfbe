use Rattle.relation_law.proofs.Sending.{each_send_is_awaited}
use Rattle.relation_law.proofs.repair_laws.each_send_is_awaited.Goals as goal

pub returns : goal.returns
returns c = each_send_is_awaited
