use Rattle.cause_law.proofs.ReopenMoments.{each_crash_bars}
use Rattle.cause_law.proofs.reopen_laws.crashes_bar.Goals as goal

pub returns : goal.returns
returns c =
    each_crash_bars c.messages_are_caused.ensures c.each_step_raises_tags.ensures c.seen_is_sound.ensures
    c.grants_are_safe.ensures c.book_is_read.ensures c.counters_stay_low.ensures c.one_event_more.ensures
