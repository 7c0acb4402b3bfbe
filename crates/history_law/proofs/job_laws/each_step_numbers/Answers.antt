use Rattle.history_law.proofs.JobSteps.{step_numbers}
use Rattle.history_law.proofs.job_laws.each_step_numbers.Goals as goal

pub returns : goal.returns
returns c = step_numbers
