use Rattle.history_claims.proofs.JobsWait.{each_job_waits}
use Rattle.history_claims.proofs.note_laws.jobs_wait.Goals as goal

pub returns : goal.returns
returns c = each_job_waits c.each_step_is_safe.ensures
