-- The server that contents stand for, and a journaled server as it stands on its disk.
--
-- A definition that takes `Ghosts D` takes the ghost members of a disk's trait, as `D.Disk`.
use Rattle.std.specs.Prelude.{◌≡◌, ◌⊎◌, ℕ, List, Bool, [], ◌∷◌, ◌++◌}
use Rattle.osd_disk.specs.Crashes.{LeavesOnly}
use Rattle.osd_disk.specs.declared.disk.Disk.{Ghosts}
use Rattle.gate_log.specs.declared.log.GateLog.{GateLog}
use Rattle.gate_log.specs.Logs.{IsLog}
use Rattle.gate_log.specs.Standing.{IsAtRest, disk_of}
use Rattle.server_rules.specs.declared.notes.Note.{Note}
use Rattle.server_rules.specs.declared.server.Server.{Server}
use Rattle.server_rules.specs.Openings.{crash}
use Rattle.server_journal.specs.declared.server.JournaledServer.{JournaledServer}
use Rattle.server_journal.specs.declared.made.MadeObject.{MadeObject}
use Rattle.server_journal.specs.Header.{journal_header}
use Rattle.server_journal.specs.Made.{made_by}
use Rattle.server_journal.specs.Notes.{notes_kept}
use Rattle.server_notes.specs.Asking.{asking, without}
use Rattle.server_journal.specs.Records.{LeadTo}

-- contents stand for a server without jobs: they are a log with a journal's header, of records that lead to it
pub record IsJournalOf (s : Server) (c : List ℕ) : Type 0 where
  pub records : List (List ℕ)
  pub log : IsLog journal_header records c
  pub lead : LeadTo records s

-- contents stand for a server without jobs, tell of these objects that drives have made for it, and keep these notes
pub record IsJournalWith (s : Server) (made : List MadeObject) (notes : List Note) (c : List ℕ) : Type 0 where
  pub records : List (List ℕ)
  pub log : IsLog journal_header records c
  pub lead : LeadTo records s
  pub objects : made_by records ≡ made
  pub noted : notes_kept records ≡ notes

-- contents stand for the one server or for the other
abbrev pub StandForEither : (before after : Server) → List ℕ → Type 0
StandForEither before after c = IsJournalOf before c ⊎ IsJournalOf after c

-- the disk of a log tells its bytes, a crash leaves all of them, and they stand for the server, tell of these objects and keep
-- these notes
pub record KeepsServer {D : Type 0} (k : Ghosts D) (s : Server) (made : List MadeObject) (notes : List Note) (log : GateLog D)
    : Type 0 where
  pub records : List (List ℕ)
  pub rest : IsAtRest k.tells k.seen k.may_leave journal_header records log
  pub lead : LeadTo records s
  pub objects : made_by records ≡ made
  pub noted : notes_kept records ≡ notes

-- ---- a journaled server

-- the server
abbrev pub core_of : {D : Type 0} → JournaledServer D → Server
core_of j = j.kept.server

-- the objects that drives have made for it, as far as it was told
abbrev pub made_of : {D : Type 0} → JournaledServer D → List MadeObject
made_of j = j.made

-- the notes that it keeps
abbrev pub noted_of : {D : Type 0} → JournaledServer D → List Note
noted_of j = j.noted

-- its disk
abbrev pub disk_in : {D : Type 0} → JournaledServer D → D
disk_in j = disk_of j.log

-- a call that might have changed it wasn't answered
abbrev pub is_over_in : {D : Type 0} → JournaledServer D → Bool
is_over_in j = j.is_over

-- its disk stands for what it keeps through a crash, tells of the objects that were made, and keeps its notes
abbrev pub IsKept : {D : Type 0} → Ghosts D → JournaledServer D → Type 0
IsKept k j = KeepsServer k (crash (core_of j)) j.made j.noted j.log

-- a crash at any moment between two states of a disk leaves what stands for the one server or for the other
abbrev pub LeavesEither : {D : Type 0} → Ghosts D → (old new : D) → (before after : Server) → Type 0
LeavesEither k old new before after = LeavesOnly k.moment k.left_since old new (StandForEither before after)

-- contents stand for the server before a step and keep the notes of then, or for the one after it and keep those that the step
-- told and that ask for something too
abbrev pub StandsBesideStep : List MadeObject → (before : Server) → (notes : List Note) → (after : Server) → (told : List Note)
    → List ℕ → Type 0
StandsBesideStep made before notes after told c =
    IsJournalWith before made notes c ⊎ IsJournalWith after made (notes ++ asking told) c

-- a crash at any moment between two states of a disk leaves the one or the other: never a step without its notes
abbrev pub LeavesStep : {D : Type 0} → Ghosts D → (old new : D) → List MadeObject → (before : Server) → (notes : List Note)
    → (after : Server) → (told : List Note) → Type 0
LeavesStep k old new made before notes after told =
    LeavesOnly k.moment k.left_since old new (StandsBesideStep made before notes after told)

-- While a journal is told of one object more, a crash leaves the server as it is, and all objects without that one or with it.
abbrev pub LeavesMade : {D : Type 0} → Ghosts D → (old new : JournaledServer D) → MadeObject → Type 0
LeavesMade k old new m =
    LeavesOnly k.moment k.left_since (disk_in old) (disk_in new)
    (λ c. IsJournalWith (crash (core_of old)) (made_of old) (noted_of old) c
    ⊎ IsJournalWith (crash (core_of old)) (made_of old ++ m ∷ []) (noted_of old) c)

-- While an operator deals with the notes of a file, a crash leaves the server as it is, and all notes or those of other files.
abbrev pub LeavesDealt : {D : Type 0} → Ghosts D → (old new : JournaledServer D) → (file : ℕ) → Type 0
LeavesDealt k old new file =
    LeavesOnly k.moment k.left_since (disk_in old) (disk_in new)
    (λ c. IsJournalWith (crash (core_of old)) (made_of old) (noted_of old) c
    ⊎ IsJournalWith (crash (core_of old)) (made_of old) (without (noted_of old) file) c)
