-- Whether a job awaits a reply.
use Rattle.std.specs.Prelude.{ℕ, Bool, true, false, List, Option, Some, None, ◌≡◌, ◌<◌, ◌++◌, length, slice_get, find}
use Rattle.osd_commands.specs.declared.replies.Reply.{Reply}
use Rattle.server_rules.specs.declared.jobs.Job.{Job}
use Rattle.server_rules.specs.declared.server.Drive.{Drive}
use Rattle.server_rules.specs.declared.server.Effects.{Effects}
use Rattle.server_rules.specs.Replies.{answers, on_reply}
use Rattle.file_jobs.specs.declared.job.FileState.{FileState}
use Rattle.stripe_repair.specs.declared.loads.DriveLoad.{DriveLoad}
use Rattle.file_jobs.specs.Placing.{AreLoadsOf}
use Rattle.file_jobs.specs.Steps.{at}

-- a reply answers the job's command at that place
abbrev pub FoundIn : (drive : ℕ) → Reply → (place : ℕ) → Option Job → Type 0
FoundIn drive r place None = ⊥
FoundIn drive r place (Some j) = (place < length j.awaited) ×
    (find (answers drive r) j.awaited ≡ slice_get j.awaited place)

-- a reply answers none of the job's commands
abbrev pub FoundNowhere : (drive : ℕ) → Reply → Option Job → Type 0
FoundNowhere drive r None = Unit {0}
FoundNowhere drive r (Some j) = find (answers drive r) j.awaited ≡ None

-- the file's job heard it for some answers of the placer, or doesn't await it and nothing changes
abbrev pub HearsReply : Bool → List DriveLoad → (drive : ℕ) → Reply → FileState → Effects → FileState → Effects → Type 0
HearsReply true loads drive r old was new is =
    (ds : List Drive) → AreLoadsOf loads ds → (chosen : List ℕ) × ((rest : List ℕ) →
    on_reply (at old was ds (chosen ++ rest)) drive r ≡ Some (at new is ds rest))
HearsReply false loads drive r old was new is =
    ((ds : List Drive) (chosen : List ℕ) → on_reply (at old was ds chosen) drive r ≡ None) × (new ≡ old) × (is ≡ was)
