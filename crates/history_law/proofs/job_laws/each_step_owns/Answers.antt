use Rattle.history_law.proofs.JobSteps.{step_owns}
use Rattle.history_law.proofs.job_laws.each_step_owns.Goals as goal

pub returns : goal.returns
returns c = step_owns
