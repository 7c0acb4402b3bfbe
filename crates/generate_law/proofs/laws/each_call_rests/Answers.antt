use Rattle.generate_law.proofs.EachRest.{each_call_rests}
use Rattle.generate_law.proofs.laws.each_call_rests.Goals as goal

pub returns : goal.returns
returns c =
    each_call_rests c.one_event_more.ensures c.ready_calls_end_in_ok.ensures.rest c.grants_are_safe.ensures
    c.scenes_are_read.ensures
