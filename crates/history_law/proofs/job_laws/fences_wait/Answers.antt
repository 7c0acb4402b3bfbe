use Rattle.history_law.proofs.JobSteps.{fences_wait}
use Rattle.history_law.proofs.job_laws.fences_wait.Goals as goal

pub returns : goal.returns
returns c = fences_wait
