use Rattle.history_claims.proofs.Timing.{each_is_timed_out}
use Rattle.history_claims.proofs.laws.components_time_out.Goals as goal

pub returns : goal.returns
returns c = each_is_timed_out c.one_event_more.ensures c.events_stand_apart.ensures
