use Rattle.exchange_law.proofs.ClientsCounted.{clients_are_counted}
use Rattle.exchange_law.proofs.laws.clients_are_counted.Goals as goal

pub returns : goal.returns
returns c = clients_are_counted
