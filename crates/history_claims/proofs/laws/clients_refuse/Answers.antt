use Rattle.history_claims.proofs.Refusing.{each_is_refused}
use Rattle.history_claims.proofs.laws.clients_refuse.Goals as goal

pub returns : goal.returns
returns c = each_is_refused c.one_event_more.ensures c.events_stand_apart.ensures
