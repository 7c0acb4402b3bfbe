-- What a request at a file did, as the rules see it.
use Rattle.std.specs.Prelude.{ℕ, List, [], ◌∷◌, Option, Some, None, ◌≡◌, ◌≤◌, ◌+◌, if◌then◌else◌}
use Rattle.server_rules.specs.declared.jobs.Job.{Job}
use Rattle.server_rules.specs.declared.server.Drive.{Drive}
use Rattle.server_rules.specs.declared.files.Component.{Component}
use Rattle.server_rules.specs.declared.server.Effects.{Effects}
use Rattle.server_rules.specs.declared.requests.RequestArgs.{RequestArgs}
use Rattle.server_rules.specs.declared.requests.RequestArgs.TheVariants.{Get}
use Rattle.server_rules.specs.declared.notes.NoteKind.TheVariants.{Reported}
use Rattle.server_rules.specs.Numbers.{among}
use Rattle.server_rules.specs.declared.limits.TheConstants.{GREATEST_GRANT}
use Rattle.server_rules.specs.Requests.{serves}
use Rattle.server_rules.specs.Get.{lowest, gets}
use Rattle.server_rules.specs.Going.{Going}
use Rattle.server_rules.specs.Served.{Served}
use Rattle.server_requests.specs.Telling.{told_rule, IsTold}
use Rattle.server_requests.specs.declared.answers.Told.{Told}
use Rattle.server_requests.specs.declared.get.Wanted.{Wanted}
use Rattle.file_jobs.specs.declared.job.FileState.{FileState}
use Rattle.file_jobs.specs.Sound.{IsSoundFile}
use Rattle.file_jobs.specs.Steps.{at}
use Rattle.file_jobs.specs.Works.{noted}
use Rattle.server_state.specs.declared.outcome.Outcome.{Outcome}
use Rattle.server_state.specs.declared.outcome.Asking.{Asking}

-- the component that a job waits for, and none lower
abbrev pub waited : Option Job → Option ℕ
waited None = None
waited (Some j) = Some (lowest j.awaited)

-- an answer and nothing else
abbrev pub said : (status detail : ℕ) → Outcome
said status detail =
    record { recalled = []; numbers = 0; told = record { status = status; detail = detail; grant = None } }

-- the file as the step left it, and what was done besides
abbrev pub served_by : Outcome → Going → Served
served_by o g = record { going = g; recalled = o.recalled; numbers = o.numbers; told = told_rule o.told }

-- whatever drives there are and the placer names, what was done at the file is what this function says
abbrev pub Serves : (Going → Served) → FileState → Effects → Outcome → FileState → Effects → Type 0
Serves f old was o new is = (ds : List Drive) (chosen : List ℕ) →
    served_by o (at new is ds chosen) ≡ f (at old was ds chosen)

-- a LAYOUTGET for these bytes
abbrev pub gets_for : Asking → Wanted → Going → Served
gets_for q w go = gets go q.next_grant q.format q.time q.client w.iomode w.offset w.length

-- a request with these arguments
abbrev pub serves_for : Asking → RequestArgs → Going → Served
serves_for q args go = serves go q.next_grant q.format q.time q.client args

-- a LAYOUTGET is answered by a layout of stripes of a file, or is refused
abbrev pub IsLayoutTold : Told → Type 0
IsLayoutTold t = IsTold (Get 0 0 0) t

-- a note for each of these components, in rising order, from number k on
unfoldable pub reported : List ℕ → List Component → (k file : ℕ) → Effects → Effects
reported ks [] k n m = m
reported ks (at ∷ cs) k n m = reported ks cs (k + 1) n (if among k ks then noted m n (Reported k) else m)

-- a number of a grant is used only where one is left
abbrev pub Counts : (next : ℕ) → Outcome → Type 0
Counts next o = next ≤ GREATEST_GRANT + 1 → next + o.numbers ≤ GREATEST_GRANT + 1

-- what a request leaves of its file
pub record LeavesFile (old new : FileState) : Type 0 where
  pub number : new.kept.number ≡ old.kept.number
  pub sound : IsSoundFile new
