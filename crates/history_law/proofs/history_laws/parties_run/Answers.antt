use Rattle.history_law.proofs.Running.{parties_run}
use Rattle.history_law.proofs.history_laws.parties_run.Goals as goal

pub returns : goal.returns
returns c = parties_run
