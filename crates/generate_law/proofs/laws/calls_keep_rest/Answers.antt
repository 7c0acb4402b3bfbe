use Rattle.generate_law.proofs.Going.{calls_keep_rest}
use Rattle.generate_law.proofs.laws.calls_keep_rest.Goals as goal

pub returns : goal.returns
returns c =
    calls_keep_rest c.one_event_more.ensures c.ready_calls_end_in_ok.ensures.rest c.grants_are_safe.ensures
    c.scenes_are_read.ensures
