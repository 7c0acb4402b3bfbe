use Rattle.component_law.proofs.Histories.{grants_read_in_order}
use Rattle.component_law.proofs.party_laws.grants_read_in_order.Goals as goal

pub returns : goal.returns
returns c = grants_read_in_order
