use Rattle.exchange_law.proofs.Each.{clients_are_in_step}
use Rattle.exchange_law.proofs.laws.clients_are_in_step.Goals as goal

pub returns : goal.returns
returns c = clients_are_in_step c.slots_are_kept.ensures c.one_event_more.ensures
