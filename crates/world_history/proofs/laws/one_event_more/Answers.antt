use Rattle.world_history.proofs.Histories.{one_event_more}
use Rattle.world_history.proofs.laws.one_event_more.Goals as goal

pub returns : goal.returns
returns c = one_event_more
