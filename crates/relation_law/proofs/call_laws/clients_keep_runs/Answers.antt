use Rattle.relation_law.proofs.RunsGo.{clients_keep_runs}
use Rattle.relation_law.proofs.call_laws.clients_keep_runs.Goals as goal

pub returns : goal.returns
returns c = clients_keep_runs
