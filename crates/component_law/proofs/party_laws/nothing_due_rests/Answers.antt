use Rattle.component_law.proofs.Rests.{nothing_due_rests}
use Rattle.component_law.proofs.party_laws.nothing_due_rests.Goals as goal

pub returns : goal.returns
returns c = nothing_due_rests
