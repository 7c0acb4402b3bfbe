use Rattle.generate_law.proofs.Tallying.{summary_is_plain}
use Rattle.generate_law.proofs.laws.summary_is_plain.Goals as goal

pub returns : goal.returns
returns c =
    summary_is_plain c.scenario_calls_end_in_ok.ensures c.ended_calls_are_logged.ensures c.headline_holds.ensures
