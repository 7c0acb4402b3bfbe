-- A drive's reply, at the file whose job awaits it.
use Rattle.std.specs.Prelude.{ℕ, Bool, true, false, List, Option, Some, None, ◌≡◌, find, is_some}
use Rattle.std.specs.Ordering.{nat_cmp}
use Rattle.std.specs.BTreeMap.{is_at}
use Rattle.std.specs.Map.{set_value}
use Rattle.osd_commands.specs.declared.replies.Reply.{Reply}
use Rattle.server_rules.specs.declared.jobs.Job.{Job}
use Rattle.server_rules.specs.declared.server.Server.{Server}
use Rattle.server_rules.specs.declared.server.Effects.{Effects}
use Rattle.server_rules.specs.Files.{at_file}
use Rattle.server_rules.specs.Messages.{heard_at}
use Rattle.server_rules.specs.Replies.{answers, on_reply}
use Rattle.file_jobs.specs.declared.job.FileState.{FileState}
use Rattle.file_jobs.specs.Steps.{file_of}
use Rattle.file_jobs.specs.Heard.{HearsReply}
use Rattle.stripe_repair.specs.declared.loads.DriveLoad.{DriveLoad}
use Rattle.server_state.specs.FileRequests.{LeavesFile}
use Rattle.server_state.specs.Tables.{Table, files_in, entry_at}

-- a command of the job is answered
abbrev pub awaits : (drive : ℕ) → Reply → Option Job → Bool
awaits drive r None = false
awaits drive r (Some j) = is_some (find (answers drive r) j.awaited)

-- the file of that number is the one that hears it
abbrev pub AwaitedAt : (drive : ℕ) → Reply → (number : ℕ) → Table → Type 0
AwaitedAt drive r n t =
    (f : FileState) × (entry_at t n ≡ Some f) × (awaits drive r f.job ≡ true)
    × ((s : Server) (chosen : List ℕ) → heard_at s chosen drive r (files_in t)
    ≡ on_reply (at_file s chosen (file_of f)) drive r)

-- no file hears it
abbrev pub AwaitedNowhere : (drive : ℕ) → Reply → Table → Type 0
AwaitedNowhere drive r t = (s : Server) (chosen : List ℕ) → heard_at s chosen drive r (files_in t) ≡ None

-- the file of that number heard it, if its job awaits it
abbrev pub HeardIn : List DriveLoad → (drive : ℕ) → Reply → (number : ℕ) → Table → Effects → Table → Effects → Type 0
HeardIn loads drive r n old was new is =
    (f : FileState) → entry_at old n ≡ Some f → awaits drive r f.job ≡ true →
    (g : FileState) × (new ≡ set_value (is_at (nat_cmp n)) old g)
    × HearsReply true loads drive r f was g is × LeavesFile f g
