use Rattle.relation_law.proofs.Hearing.{heard_tells}
use Rattle.relation_law.proofs.repair_laws.heard_tells_of_writes.Goals as goal

pub returns : goal.returns
returns c = heard_tells c.one_event_more.ensures c.counters_stay_low.ensures c.no_command_is_ahead.ensures
