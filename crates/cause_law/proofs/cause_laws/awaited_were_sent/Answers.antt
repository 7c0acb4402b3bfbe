use Rattle.cause_law.proofs.AwaitedSent.{each_awaited_was_sent}
use Rattle.cause_law.proofs.cause_laws.awaited_were_sent.Goals as goal

pub returns : goal.returns
returns c = each_awaited_was_sent c.server_moves.ensures c.book_is_read.ensures c.one_event_more.ensures
