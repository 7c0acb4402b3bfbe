-- A file in the middle of a step, as the code holds it.
use Rattle.std.specs.Prelude.{ℕ, Bool, List, ◌∷◌, Option, Some, ◌≡◌, ◌++◌, drop, slice_get}
use Rattle.server_rules.specs.declared.files.File.{File}
use Rattle.server_rules.specs.declared.files.Kept.{Kept}
use Rattle.server_rules.specs.declared.jobs.Job.{Job}
use Rattle.server_rules.specs.declared.jobs.JobKind.{JobKind}
use Rattle.server_rules.specs.declared.server.Drive.{Drive}
use Rattle.server_rules.specs.declared.server.Effects.{Effects}
use Rattle.server_rules.specs.declared.jobs.Awaited.{Awaited}
use Rattle.server_rules.specs.Going.{Going, over, rests_or}
use Rattle.server_rules.specs.Rebuild.{makes, rebuilds}
use Rattle.server_rules.specs.Repair.{after_repair}
use Rattle.server_rules.specs.Replies.{hearing, hears}
use Rattle.osd_commands.specs.declared.replies.Reply.{Reply}
use Rattle.file_jobs.specs.declared.job.Work.{Work as RunningWork}
use Rattle.file_jobs.specs.declared.job.FileState.{FileState}
use Rattle.file_jobs.specs.declared.job.Turn.{Turn}
use Rattle.file_jobs.specs.declared.job.Turn.TheVariants.{Over, Rests, Mended, Places}
use Rattle.file_jobs.specs.Works.{work_of}
use Rattle.stripe_repair.specs.declared.loads.DriveLoad.{DriveLoad}
use Rattle.file_jobs.specs.Placing.{AreLoadsOf}

-- ---- a whole file

-- the file of the rules
abbrev pub file_of : FileState → File
file_of f = record { kept = f.kept; spent = f.spent; job = f.job }

-- the file in a step, before these answers of the placer
abbrev pub at : FileState → Effects → List Drive → (chosen : List ℕ) → Going
at f m ds chosen = record { file = file_of f; effects = m; drives = ds; chosen = chosen }

-- ---- without its job

-- what a part of a step doesn't look at
pub record Around : Type 0 where
  pub spent : Bool
  pub job : Option Job
  pub drives : List Drive
  pub chosen : List ℕ

-- what is kept of a file in a step
abbrev pub going : Kept → Effects → Around → Going
going k m a =
    record { file = record { kept = k; spent = a.spent; job = a.job }; effects = m; drives = a.drives; chosen = a.chosen }

-- what comes of its job
abbrev pub turned : Turn → Kept → Effects → Around → Going
turned Over k m a = over (going k m a)
turned (Rests j) k m a = record (going k m a) { file = record { kept = k; spent = a.spent; job = Some j } }
turned (Mended kind) k m a = after_repair kind (going k m a)
turned (Places from) k m a = rebuilds (going k m a) (drop from k.components) from

-- no drives are to be found
abbrev pub IsSettled : Turn → Type 0
IsSettled Over = Unit {0}
IsSettled (Rests j) = Unit {0}
IsSettled (Mended kind) = ⊥
IsSettled (Places from) = ⊥

-- the job rests, is over, or goes on as one of this kind
abbrev pub GoesOnAs : JobKind → Turn → Type 0
GoesOnAs kind Over = Unit {0}
GoesOnAs kind (Rests j) = Unit {0}
GoesOnAs kind (Mended k) = k ≡ kind
GoesOnAs kind (Places from) = ⊥

-- the job is this
abbrev pub SetsJob : Turn → Option Job → Type 0
SetsJob turn job = (k : Kept) (m : Effects) (a : Around) →
    turned turn k m a ≡ record (going k m a) { file = record { kept = k; spent = a.spent; job = job } }

-- whatever surrounds it, what is kept is what this function makes
abbrev pub Makes : (Going → Going) → Kept → Effects → Kept → Effects → Type 0
Makes f old was new is = (a : Around) → going new is a ≡ f (going old was a)

-- whatever surrounds it, what came of the job is what this function makes
abbrev pub Turns : (Going → Going) → Kept → Effects → Turn → Kept → Effects → Type 0
Turns f old was turn new is = (a : Around) → turned turn new is a ≡ f (going old was a)

-- what a turn does with a command that the job waits for
abbrev pub TurnsAt : (Going → Awaited → Going) → List Awaited → (place : ℕ) → Kept → Effects → Turn → Kept → Effects →
    Type 0
TurnsAt f cs place old was turn new is = (a : Awaited) → slice_get cs place ≡ Some a →
    Turns (λ g. f g a) old was turn new is

-- what a reply to the command at a place does where the job is this one
abbrev pub Hears : Job → Reply → (place : ℕ) → Kept → Effects → Turn → Kept → Effects → Type 0
Hears j r place old was turn new is =
    (a : Awaited) → slice_get j.awaited place ≡ Some a → (s : Around) → s.job ≡ Some j →
    turned turn new is s ≡ hears (going old was s) j a r (hearing old a r)

-- the job rests on these commands, whatever else would come
abbrev pub RestsOr : List Awaited → JobKind → RunningWork → Effects → Turn → Effects → Type 0
RestsOr cs kind work was turn is = (k : Kept) (a : Around) (later : Going) →
    turned turn k is a ≡ rests_or cs (going k was a) kind (work_of work) later

-- a missing component is made on a drive that is free, and any other that the placer names later is left
abbrev pub MakesOn : (k drive : ℕ) → Kept → Effects → Turn → Effects → Type 0
MakesOn k drive kept was turn is = (a : Around) →
    turned turn kept is a ≡ makes (going kept was (record a { chosen = drive ∷ a.chosen }))
    (record { component = k; drive = drive; object = was.object })

-- whatever surrounds it and for some answers of the placer, what came of the job is what this function makes
abbrev pub Chooses : (Going → Going) → List DriveLoad → Kept → Effects → Turn → Kept → Effects → Type 0
Chooses f loads old was turn new is =
    (chosen : List ℕ) × ((a : Around) → AreLoadsOf loads a.drives →
    turned turn new is a ≡ f (going old was (record a { chosen = chosen ++ a.chosen })))

-- for some answers of the placer, the file with this job is what came of its job
abbrev pub Settles : Turn → List DriveLoad → Kept → Effects → Option Job → Effects → Type 0
Settles turn loads k was job is =
    (chosen : List ℕ) × ((a : Around) → AreLoadsOf loads a.drives →
    going k is (record a { job = job }) ≡ turned turn k was (record a { chosen = chosen ++ a.chosen }))

-- ---- at a whole file

-- what came of the file is what this function makes
abbrev pub Steps : (Going → Going) → FileState → Effects → FileState → Effects → Type 0
Steps f old was new is = (ds : List Drive) (chosen : List ℕ) → at new is ds chosen ≡ f (at old was ds chosen)

-- what a step does, for some answers of the placer
abbrev pub Asks : (Going → Going) → List Drive → FileState → Effects → FileState → Effects → Type 0
Asks f ds old was new is = (chosen : List ℕ) × ((rest : List ℕ) →
    at new is ds rest ≡ f (at old was ds (chosen ++ rest)))

-- what a step does, for some answers of the placer, wherever these are the loads of the drives
abbrev pub StepsOn : (Going → Going) → List DriveLoad → FileState → Effects → FileState → Effects → Type 0
StepsOn f loads old was new is = (ds : List Drive) → AreLoadsOf loads ds → Asks f ds old was new is
