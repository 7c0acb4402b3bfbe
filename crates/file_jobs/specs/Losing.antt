-- A component became missing in the middle of a job.
use Rattle.std.specs.Prelude.{List, Option, Some, None, ◌≡◌, false}
use Rattle.server_rules.specs.declared.jobs.Awaited.{Awaited}
use Rattle.server_rules.specs.declared.jobs.Heard.{Heard}
use Rattle.server_rules.specs.declared.jobs.JobKind.{JobKind}
use Rattle.server_rules.specs.declared.jobs.Job.{Job}
use Rattle.server_rules.specs.declared.jobs.Target.{Target}
use Rattle.server_rules.specs.declared.jobs.Work.{Work}
use Rattle.server_rules.specs.declared.jobs.Work.TheVariants.{Targets, Gathers, Fills}
use Rattle.server_rules.specs.declared.server.Effects.{Effects}
use Rattle.server_rules.specs.Going.{Going}
use Rattle.server_rules.specs.Jobs.{loses}
use Rattle.server_rules.specs.declared.files.Kept.{Kept}
use Rattle.stripe_repair.specs.Repairing.{RepairState, work_of}
use Rattle.file_jobs.specs.declared.job.Turn.{Turn}
use Rattle.file_jobs.specs.Steps.{Around, going, turned}

-- where a rebuild makes a component anew
abbrev pub target_in : Work → Option Target
target_in (Targets t) = Some t
target_in (Gathers t todo) = Some t
target_in (Fills t todo) = Some t
target_in work = None

-- what the job awaits are the others' answers
abbrev pub loses_in_repair : Going → JobKind → RepairState → List Awaited → List Heard → Going
loses_in_repair g kind r rest heard = loses g (record { kind = kind; work = work_of r; awaited = rest; heard = heard })
    (work_of r) rest false

-- where this job runs, what came of it is what this function makes
abbrev pub TurnsIn : Job → (Going → Going) → Kept → Effects → Turn → Kept → Effects → Type 0
TurnsIn j f old was turn new is = (a : Around) → a.job ≡ Some j → turned turn new is a ≡ f (going old was a)
