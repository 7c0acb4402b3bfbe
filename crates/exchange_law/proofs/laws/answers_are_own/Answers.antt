use Rattle.exchange_law.proofs.Own.{answers_are_own}
use Rattle.exchange_law.proofs.laws.answers_are_own.Goals as goal

pub returns : goal.returns
returns c = answers_are_own c.slots_are_kept.ensures c.one_event_more.ensures
