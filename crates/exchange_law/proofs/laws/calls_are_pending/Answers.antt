use Rattle.exchange_law.proofs.PendingMoves.{calls_are_pending}
use Rattle.exchange_law.proofs.laws.calls_are_pending.Goals as goal

pub returns : goal.returns
returns c = λ told. calls_are_pending told c.one_event_more.ensures
