use Rattle.history_claims.proofs.Delivering.{each_event_delivers}
use Rattle.history_claims.proofs.laws.events_deliver.Goals as goal

pub returns : goal.returns
returns c = each_event_delivers c.one_event_more.ensures c.events_stand_apart.ensures
