use Rattle.file_simulation.proofs.Induction.{simulation_gives_runs}
use Rattle.file_simulation.proofs.laws.simulation_gives_runs.Goals as goal

pub returns : goal.returns
returns c =
    simulation_gives_runs c.one_event_more.ensures c.reading_goes_on.ensures.moment c.reading_goes_on.ensures.lines
    c.pending_is_read.ensures
