use Rattle.ready_law.proofs.Losses.{losses_are_borne}
use Rattle.ready_law.proofs.laws.losses_are_borne.Goals as goal

pub returns : goal.returns
returns c = losses_are_borne
