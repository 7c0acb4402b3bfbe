use Rattle.server_rules.proofs.SlotLaws.{repeats_alike}
use Rattle.server_rules.proofs.laws.repeats_are_answered_alike.Goals as goal

pub returns : goal.returns
returns c = repeats_alike
