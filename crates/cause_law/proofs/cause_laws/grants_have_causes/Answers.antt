use Rattle.cause_law.proofs.Grants.{each_grant_has_its_causes}
use Rattle.cause_law.proofs.cause_laws.grants_have_causes.Goals as goal

pub returns : goal.returns
returns c =
    each_grant_has_its_causes c.files_are_put.ensures c.each_step_raises_tags.ensures c.seen_is_sound.ensures
    c.grants_are_safe.ensures
    c.book_is_read.ensures c.step_is_read.ensures c.server_moves.ensures c.one_event_more.ensures
    c.reading_goes_on.ensures.server
