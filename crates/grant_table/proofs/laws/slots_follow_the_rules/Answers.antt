use Rattle.grant_table.proofs.SlotLaws.{follow}
use Rattle.grant_table.proofs.laws.slots_follow_the_rules.Goals as goal

pub returns : goal.returns
returns c = follow
