use Rattle.exchange_law.proofs.TakenLaw.{awaited_are_taken}
use Rattle.exchange_law.proofs.laws.awaited_are_taken.Goals as goal

pub returns : goal.returns
returns c = awaited_are_taken c.one_event_more.ensures c.lanes_are_own.ensures c.awaited_are_latest.ensures
