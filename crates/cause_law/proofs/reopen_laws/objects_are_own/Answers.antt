use Rattle.cause_law.proofs.PlaceMoments.{each_object_is_own}
use Rattle.cause_law.proofs.reopen_laws.objects_are_own.Goals as goal

pub returns : goal.returns
returns c =
    each_object_is_own c.each_object_is_owned.ensures c.parties_run.ensures c.seen_is_sound.ensures c.book_is_read.ensures
    c.step_is_read.ensures c.server_moves.ensures c.reading_goes_on.ensures.server c.one_event_more.ensures
