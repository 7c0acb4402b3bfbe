-- A server in a journal, as what takes messages.
use Rattle.std.specs.Prelude.{ℕ, List, Bool, ◌==◌, ◌&&◌}
use Rattle.std.specs.List.{list_any}
use Rattle.osd_disk.specs.declared.disk.Disk.{Ghosts}
use Rattle.server_rules.specs.declared.server.Server.{Server}
use Rattle.server_rules.specs.Openings.{crash}
use Rattle.server_rules.specs.declared.server.Refusal.TheVariants as refusal
use Rattle.server_command.specs.declared.metadata_server.MakeErr.{MakeErr}
use Rattle.server_command.specs.declared.metadata_server.MakeErr.TheVariants as made
use Rattle.server_command.specs.declared.metadata_server.StepErr.{StepErr}
use Rattle.server_command.specs.declared.metadata_server.StepErr.TheVariants as step
use Rattle.server_journal.specs.declared.errors.JournalErr.{JournalErr}
use Rattle.server_journal.specs.declared.errors.JournalErr.TheVariants as journal
use Rattle.server_journal.specs.declared.errors.JournalFileErr.{JournalFileErr}
use Rattle.server_journal.specs.declared.errors.JournalFileErr.TheVariants as file
use Rattle.server_journal.specs.declared.made.MadeObject.{MadeObject}
use Rattle.server_journal.specs.Journals.{IsJournalOf, IsKept, core_of, disk_in}
use Rattle.server_journal.specs.Resting.{kept_leaves}
use Rattle.stored_server.specs.declared.stored_server.StoredServer.{StoredServer}

-- why a step isn't done then; a journal that is open refuses no contents
abbrev pub step_err_of : JournalErr → StepErr
step_err_of journal.DiskFault = step.DiskFault
step_err_of other = step.Memory

-- and why a file isn't made
abbrev pub make_err_of : JournalFileErr → MakeErr
make_err_of file.FileExists = made.Refused refusal.FileExists
make_err_of (file.BadMap why) = made.Refused (refusal.BadMap why)
make_err_of (file.TooFewDrives online) = made.Refused (refusal.TooFewDrives online)
make_err_of (file.NoSpread online) = made.Refused (refusal.NoSpread online)
make_err_of (file.Journal journal.DiskFault) = made.DiskFault
make_err_of (file.Journal other) = made.Memory

-- a drive has made this object, as these say
abbrev pub is_among : List MadeObject → (drive object : ℕ) → Bool
is_among made drive object = list_any (λ m. (m.drive == drive) && (m.object == object)) made

-- the disk that keeps a server
abbrev pub kept_on : {D : Type 0} → StoredServer D → D
kept_on s = disk_in s.journal

-- contents stand for a server: they are a journal of what it keeps through a crash
abbrev pub StandsFor : Server → List ℕ → Type 0
StandsFor s c = IsJournalOf (crash s) c

-- if nothing is asked of it, a crash leaves a journal of the server as it is
pub stays : {D : Type 0} (k : Ghosts D) → ((disk : D) (c : List ℕ) → k.left_since disk (k.moment disk) c → k.may_leave disk c)
    → (s : StoredServer D) (c : List ℕ) → IsKept k s.journal → k.left_since (kept_on s) (k.moment (kept_on s)) c
    → StandsFor (core_of s.journal) c
stays k only_now s c kept left = kept_leaves k (crash (core_of s.journal)) s.journal.made s.journal.noted s.journal.log kept c
    (only_now (kept_on s) c left)

-- the ghost members of a disk, one by one
abbrev pub ghosts_of : {D : Type 0} (tells : D → Bool) (seen : D → List ℕ) (may_leave : D → List ℕ → Type 0) (moment : D → ℕ)
    (left_since : D → ℕ → List ℕ → Type 0) (faults : D → ℕ) → Ghosts D
ghosts_of tells seen may_leave moment left_since faults =
    record { tells = tells; seen = seen; may_leave = may_leave; moment = moment; left_since = left_since; faults = faults }
