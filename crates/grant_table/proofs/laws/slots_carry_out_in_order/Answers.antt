use Rattle.grant_table.proofs.SlotLaws.{in_order}
use Rattle.grant_table.proofs.laws.slots_carry_out_in_order.Goals as goal

pub returns : goal.returns
returns c = in_order
