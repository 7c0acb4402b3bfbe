use Rattle.cause_law.proofs.Counting.{each_grant_is_named_once}
use Rattle.cause_law.proofs.reopen_laws.grants_are_named_once.Goals as goal

pub returns : goal.returns
returns c =
    each_grant_is_named_once c.grants_are_in_order.ensures c.book_is_read.ensures c.step_is_read.ensures
    c.server_moves.ensures c.reading_goes_on.ensures.server c.one_event_more.ensures
