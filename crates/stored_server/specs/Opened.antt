-- The journal with which a server begins, and why it can't.
use Rattle.std.specs.Prelude.{◌≡◌, ◌⊎◌, ◌++◌, ℕ, List, [], IsTrue}
use Rattle.osd_bytes.specs.Causes.{Rose}
use Rattle.cluster_text.specs.declared.stop.CommandStop.TheVariants as cause
use Rattle.drive_command.specs.declared.stored_stop.StoredStop.{StoredStop}
use Rattle.drive_command.specs.declared.stored_stop.StoredStop.TheVariants.{Command, DiskFault, BadStore}
use Rattle.drive_command.specs.StoredStops.{no_memory}
use Rattle.osd_disk.specs.declared.disk.Disk.{Ghosts as DiskGhosts}
use Rattle.server_notes.specs.Asking.{asking, quiet}
use Rattle.server_rules.specs.declared.notes.Note.{Note}
use Rattle.server_rules.specs.declared.server.Server.{Server}
use Rattle.server_rules.specs.Files.{Step as RulesStep, still}
use Rattle.server_rules.specs.Making.{new_server}
use Rattle.server_rules.specs.Openings.{reopen}
use Rattle.server_state.specs.declared.step.Step.{Step}
use Rattle.server_state.specs.States.{Did}
use Rattle.server_journal.specs.declared.errors.JournalErr.{JournalErr}
use Rattle.server_journal.specs.declared.errors.JournalErr.TheVariants as journal
use Rattle.server_journal.specs.declared.made.MadeObject.{MadeObject}
use Rattle.server_journal.specs.Journals.{IsJournalWith}
use Rattle.server_journal.specs.Opening.{IsNoJournalAt, LeavesOpening}

-- where a journal wasn't made or opened; a disk that was empty has no bytes when the journal is made
abbrev pub stop_of_journal : JournalErr → StoredStop
stop_of_journal (journal.NotEmpty size) = BadStore 0
stop_of_journal (journal.NotAJournal at) = BadStore at
stop_of_journal journal.DiskFault = DiskFault
stop_of_journal journal.Memory = no_memory

-- the step of an opening as it is told: first the notes that the journal keeps, with those of the step that ask for something
abbrev pub told_again : List Note → RulesStep → RulesStep
told_again notes s = record s { notes = (notes ++ asking s.notes) ++ quiet s.notes }

-- The server with which serving begins, the objects that it knows to be its own, and the step of its opening: without drives
-- and files on an empty disk, else the one that the journal kept, opened, the objects that the journal tells of, and the notes
-- that it keeps told again.
abbrev pub BeginsWith : (seen : List ℕ) → Server → (own : List MadeObject) → Step → Type 0
BeginsWith seen server own step =
    ((seen ≡ []) × (own ≡ []) × Did step server (still (new_server [])))
    ⊎ ((kept : Server) × (notes : List Note) × IsJournalWith kept own notes seen
    × Did step server (told_again notes (reopen kept)))

-- why a journal can't be made or opened
abbrev pub StopsOpening : {D : Type 0} → DiskGhosts D → (disk left : D) → StoredStop → Type 0
StopsOpening s disk left (Command cause.Memory) = Unit {0}
StopsOpening s disk left (Command other) = ⊥
StopsOpening s disk left DiskFault = Rose (s.faults disk) (s.faults left)
StopsOpening s disk left (BadStore at) = IsTrue (s.tells disk) → IsNoJournalAt (s.seen disk) at

-- While a journal is opened, a crash leaves what it might have left before, or what comes of the step of the opening. While one
-- is made
-- on an empty disk, it may leave anything.
abbrev pub LeavesOpenable : {D : Type 0} → DiskGhosts D → (disk left : D) → Type 0
LeavesOpenable s disk left = (s.seen disk ≡ []) ⊎ LeavesOpening s disk left
