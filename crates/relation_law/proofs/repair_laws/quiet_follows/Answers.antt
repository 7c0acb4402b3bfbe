use Rattle.relation_law.proofs.Quiet.{quiet_follows}
use Rattle.relation_law.proofs.repair_laws.quiet_follows.Goals as goal

pub returns : goal.returns
returns c = quiet_follows c.one_event_more.ensures c.all_files_fit.ensures
