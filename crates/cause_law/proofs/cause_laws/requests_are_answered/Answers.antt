use Rattle.cause_law.proofs.Answering.{each_request_is_answered}
use Rattle.cause_law.proofs.cause_laws.requests_are_answered.Goals as goal

pub returns : goal.returns
returns c =
    each_request_is_answered c.conflicts_are_exact.ensures c.files_are_put.ensures c.grants_are_safe.ensures
    c.server_moves.ensures c.book_is_read.ensures c.step_is_read.ensures c.one_event_more.ensures
    c.reading_goes_on.ensures.server
