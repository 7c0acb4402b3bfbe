use Rattle.headline_law.proofs.Whole.{headline}
use Rattle.headline_law.proofs.headline_laws.headline_holds.Goals as goal

pub returns : goal.returns
returns c =
    headline c.histories_are_lawful.ensures c.machine_is_lawful.ensures c.simulation_gives_runs.ensures
    c.runs_give_the_headline.ensures c.files_are_shaped.ensures
