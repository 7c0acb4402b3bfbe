use Rattle.generate_law.proofs.EachOk.{scenario_calls_end_in_ok}
use Rattle.generate_law.proofs.laws.scenario_calls_end_in_ok.Goals as goal

pub returns : goal.returns
returns c =
    scenario_calls_end_in_ok c.each_call_rests.ensures c.ready_calls_end_in_ok.ensures.ok c.grants_are_safe.ensures
    c.scenes_are_read.ensures c.events_stand_apart.ensures
