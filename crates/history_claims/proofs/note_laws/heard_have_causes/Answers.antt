use Rattle.history_claims.proofs.HeardLaw.{each_heard_has_its_cause}
use Rattle.history_claims.proofs.note_laws.heard_have_causes.Goals as goal

pub returns : goal.returns
returns c =
    each_heard_has_its_cause c.server_moves.ensures c.seen_is_sound.ensures c.book_is_read.ensures c.step_is_read.ensures
    c.one_event_more.ensures c.reading_goes_on.ensures.server
