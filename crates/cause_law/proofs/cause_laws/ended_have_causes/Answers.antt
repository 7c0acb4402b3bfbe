use Rattle.cause_law.proofs.EndedLines.{each_ended_has_its_cause}
use Rattle.cause_law.proofs.cause_laws.ended_have_causes.Goals as goal

pub returns : goal.returns
returns c =
    each_ended_has_its_cause c.files_are_put.ensures c.each_step_raises_tags.ensures c.server_moves.ensures
    c.seen_is_sound.ensures c.grants_are_safe.ensures c.book_is_read.ensures c.step_is_read.ensures
    c.one_event_more.ensures c.reading_goes_on.ensures.server
