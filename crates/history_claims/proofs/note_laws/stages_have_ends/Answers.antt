use Rattle.history_claims.proofs.StageLaw.{each_stage_has_its_end}
use Rattle.history_claims.proofs.note_laws.stages_have_ends.Goals as goal

pub returns : goal.returns
returns c =
    each_stage_has_its_end c.grants_are_safe.ensures c.server_moves.ensures c.seen_is_sound.ensures
    c.book_is_read.ensures c.step_is_read.ensures c.one_event_more.ensures c.reading_goes_on.ensures.server
