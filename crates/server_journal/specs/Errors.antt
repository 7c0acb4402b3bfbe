-- When a journal may answer an error.
use Rattle.std.specs.Prelude.{◌≡◌, ◌≤◌, ℕ, Result, IsErrOf, OnOk}
use Rattle.gate_log.specs.declared.errors.LogErr.{LogErr}
use Rattle.gate_log.specs.declared.errors.LogErr.TheVariants as log
use Rattle.osd_bytes.specs.Causes.{Rose}
use Rattle.layout_server.specs.declared.new_files.FileErr.{FileErr}
use Rattle.layout_server.specs.declared.new_files.FileErr.TheVariants as file
use Rattle.server_journal.specs.declared.errors.JournalErr.{JournalErr}
use Rattle.server_journal.specs.declared.errors.JournalErr.TheVariants.{NotEmpty, DiskFault, NotAJournal, Memory}
use Rattle.server_journal.specs.declared.errors.JournalFileErr.{JournalFileErr}
use Rattle.server_journal.specs.declared.errors.JournalFileErr.TheVariants as made

-- what a journal answers if its log failed
abbrev pub told_by : LogErr → JournalErr
told_by (log.NotEmpty size) = NotEmpty size
told_by (log.NotALog at) = NotAJournal at
told_by log.DiskFault = DiskFault
told_by log.Memory = Memory

-- a fault of the disk is told only if its count rose, and an answer leaves the count
pub record HasJournalCause {T : Type 0} (before now : ℕ) (result : Result T JournalErr) : Type 0 where
  pub later : before ≤ now
  pub failed : IsErrOf result DiskFault → Rose before now
  pub same : OnOk result (now ≡ before)

-- an error that comes with the disk, told by its counts before the call and now
pub record HasErrCause (before now : ℕ) (e : JournalErr) : Type 0 where
  pub later : before ≤ now
  pub failed : e ≡ DiskFault → Rose before now

-- an error that tells nothing of contents
abbrev pub IsOfDisk : JournalErr → Type 0
IsOfDisk (NotEmpty size) = ⊥
IsOfDisk DiskFault = Unit {0}
IsOfDisk (NotAJournal at) = ⊥
IsOfDisk Memory = Unit {0}

-- a refusal of contents says what P says of its number; the other errors say nothing of them
abbrev pub NotEmptySays : (ℕ → Type 0) → JournalErr → Type 0
NotEmptySays P (NotEmpty size) = P size
NotEmptySays P DiskFault = Unit {0}
NotEmptySays P (NotAJournal at) = ⊥
NotEmptySays P Memory = Unit {0}

abbrev pub NotAJournalSays : (ℕ → Type 0) → JournalErr → Type 0
NotAJournalSays P (NotEmpty size) = ⊥
NotAJournalSays P DiskFault = Unit {0}
NotAJournalSays P (NotAJournal at) = P at
NotAJournalSays P Memory = Unit {0}

-- ---- files

-- what the making of a file answers if the server refused it, or found no memory
abbrev pub file_told_by : FileErr → JournalFileErr
file_told_by file.FileExists = made.FileExists
file_told_by (file.BadMap why) = made.BadMap why
file_told_by (file.TooFewDrives online) = made.TooFewDrives online
file_told_by (file.NoSpread online) = made.NoSpread online
file_told_by file.Memory = made.Journal Memory
