use Rattle.name_law.proofs.ClientCalls.{calls_are_pending}
use Rattle.name_law.proofs.laws.calls_of_text_are_pending.Goals as goal

pub returns : goal.returns
returns c = calls_are_pending c.outcomes_are_told.ensures c.one_event_more.ensures
