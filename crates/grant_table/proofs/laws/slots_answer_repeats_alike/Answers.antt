use Rattle.grant_table.proofs.SlotLaws.{alike}
use Rattle.grant_table.proofs.laws.slots_answer_repeats_alike.Goals as goal

pub returns : goal.returns
returns c = alike
