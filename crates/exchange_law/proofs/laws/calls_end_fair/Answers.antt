use Rattle.exchange_law.proofs.Ending.{calls_end_fair}
use Rattle.exchange_law.proofs.laws.calls_end_fair.Goals as goal

pub returns : goal.returns
returns c =
    calls_end_fair c.slots_are_kept.ensures c.one_event_more.ensures c.grants_are_safe.ensures c.answers_are_own.ensures
    c.files_have_shape.ensures
