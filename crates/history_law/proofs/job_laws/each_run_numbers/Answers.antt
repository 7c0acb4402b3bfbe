use Rattle.history_law.proofs.JobSteps.{run_numbers}
use Rattle.history_law.proofs.job_laws.each_run_numbers.Goals as goal

pub returns : goal.returns
returns c = run_numbers
