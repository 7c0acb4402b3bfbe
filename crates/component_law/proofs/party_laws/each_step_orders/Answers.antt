use Rattle.component_law.proofs.OrderSteps.{each_step_orders}
use Rattle.component_law.proofs.party_laws.each_step_orders.Goals as goal

pub returns : goal.returns
returns c = each_step_orders
