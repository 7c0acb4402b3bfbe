use Rattle.exchange_law.proofs.Slots.{no_slot_is_spent}
use Rattle.exchange_law.proofs.laws.no_slot_is_spent.Goals as goal

pub returns : goal.returns
returns c = no_slot_is_spent
