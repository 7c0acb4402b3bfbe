use Rattle.name_law.proofs.ClientSends.{clients_send}
use Rattle.name_law.proofs.laws.clients_send_to_named.Goals as goal

pub returns : goal.returns
returns c = clients_send
