use Rattle.world_parties.proofs.ClientWorlds.{clients_hear, clients_call, clients_time_out, clients_resend, clients_leave, clients_pend, clients_stop}
use Rattle.world_parties.proofs.client_laws.clients_are_the_worlds.Goals as goal

pub returns-clause-hear : goal.returns-clause-hear
returns-clause-hear c = clients_hear

pub returns-clause-call : goal.returns-clause-call
returns-clause-call c = clients_call

pub returns-clause-time_out : goal.returns-clause-time_out
returns-clause-time_out c = clients_time_out

pub returns-clause-resend : goal.returns-clause-resend
returns-clause-resend c = clients_resend

pub returns-clause-leave : goal.returns-clause-leave
returns-clause-leave c = clients_leave

pub returns-clause-pend : goal.returns-clause-pend
returns-clause-pend c = clients_pend

pub returns-clause-stop : goal.returns-clause-stop
returns-clause-stop c = clients_stop
