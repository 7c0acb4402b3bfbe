use Rattle.component_law.proofs.Moments.{server_sent_its_run}
use Rattle.component_law.proofs.sent_laws.server_sent_its_run.Goals as goal

pub returns : goal.returns
returns c = server_sent_its_run c.one_event_more.ensures
