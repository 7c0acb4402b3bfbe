use Rattle.relation_law.proofs.FittingSteps.{jobs_ask}
use Rattle.relation_law.proofs.repair_laws.jobs_ask_their_own.Goals as goal

pub returns : goal.returns
returns c = jobs_ask c.one_event_more.ensures
