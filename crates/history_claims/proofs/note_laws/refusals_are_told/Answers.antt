use Rattle.history_claims.proofs.RefusalLaw.{each_refusal_is_told}
use Rattle.history_claims.proofs.note_laws.refusals_are_told.Goals as goal

pub returns : goal.returns
returns c =
    each_refusal_is_told c.conflicts_are_exact.ensures c.grants_are_safe.ensures c.server_moves.ensures c.seen_is_sound.ensures
    c.book_is_read.ensures c.step_is_read.ensures c.one_event_more.ensures c.reading_goes_on.ensures.server
