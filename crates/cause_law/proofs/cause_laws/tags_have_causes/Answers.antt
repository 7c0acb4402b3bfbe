use Rattle.cause_law.proofs.TagNotes.{each_tag_has_its_cause}
use Rattle.cause_law.proofs.cause_laws.tags_have_causes.Goals as goal

pub returns : goal.returns
returns c =
    each_tag_has_its_cause c.server_moves.ensures c.each_step_tells_tags.ensures c.seen_is_sound.ensures
    c.book_is_read.ensures c.step_is_read.ensures c.one_event_more.ensures c.reading_goes_on.ensures.server
