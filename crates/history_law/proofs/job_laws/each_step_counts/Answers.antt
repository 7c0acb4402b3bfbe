use Rattle.history_law.proofs.Recalling.{step_counts}
use Rattle.history_law.proofs.job_laws.each_step_counts.Goals as goal

pub returns : goal.returns
returns c = step_counts
