use Rattle.history_claims.proofs.FormatLaw.{each_format_has_its_cause}
use Rattle.history_claims.proofs.note_laws.formats_have_causes.Goals as goal

pub returns : goal.returns
returns c =
    each_format_has_its_cause c.files_are_put.ensures c.each_step_raises_tags.ensures c.seen_is_sound.ensures
    c.grants_are_safe.ensures c.book_is_read.ensures c.server_moves.ensures c.one_event_more.ensures
    c.step_is_read.ensures c.reading_goes_on.ensures.server
