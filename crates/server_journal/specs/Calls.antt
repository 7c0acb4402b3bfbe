-- What a call leaves of a journaled server, and of its disk.
use Rattle.std.specs.Prelude.{◌≡◌, ◌++◌, [], ℕ, Bool, true, false, List, Some}
use Rattle.osd_disk.specs.declared.disk.Disk.{Ghosts}
use Rattle.data_map.specs.declared.check.RawMap.{RawMap}
use Rattle.server_rules.specs.declared.server.Refusal.{Refusal}
use Rattle.server_rules.specs.declared.notes.Note.{Note}
use Rattle.server_rules.specs.declared.server.Server.{Server}
use Rattle.server_rules.specs.Files.{Step as RulesStep, still}
use Rattle.server_rules.specs.History.{unless_made}
use Rattle.server_rules.specs.Making.{create_file, refusal}
use Rattle.server_rules.specs.Openings.{crash}
use Rattle.server_rules.specs.Zoning.{put_in_zone}
use Rattle.layout_server.specs.Creating.{cause_of}
use Rattle.server_journal.specs.declared.errors.JournalFileErr.{JournalFileErr}
use Rattle.server_journal.specs.declared.errors.JournalFileErr.TheVariants as made
use Rattle.server_journal.specs.declared.server.JournaledServer.{JournaledServer}
use Rattle.server_journal.specs.Counters.{CountsOn}
use Rattle.server_journal.specs.Errors.{HasErrCause, IsOfDisk, file_told_by}
use Rattle.server_journal.specs.Journals.{IsKept, LeavesStep, core_of, disk_in, is_over_in, made_of, noted_of}
use Rattle.server_notes.specs.Asking.{asking}

-- A call that was answered, and told these notes: at any moment of it a crash leaves a journal of the server before it, or of the
-- one after it with those of the notes that ask for something, and from the answer on the latter. The objects that were made
-- stay.
pub record Answered {D : Type 0} (k : Ghosts D) (old new : JournaledServer D) (told : List Note) : Type 0 where
  pub any_moment : IsKept k old
      → LeavesStep k (disk_in old) (disk_in new) (made_of old) (crash (core_of old)) (noted_of old) (crash (core_of new)) told
  pub kept : IsKept k old → IsKept k new
  pub made : made_of new ≡ made_of old
  pub noted : noted_of new ≡ noted_of old ++ asking told
  -- no call of the disk is made for what isn't kept
  pub idle : crash (core_of old) ≡ crash (core_of new) → asking told ≡ [] → disk_in new ≡ disk_in old
  pub counts : CountsOn (core_of old) (core_of new)

-- A call that ended with an error, but for a refusal: at any moment of it, and after it, a crash leaves a journal of the server
-- before it, or of the one after the step that would have followed for some drives that the placer named, with its notes.
pub record CutOff {D : Type 0} (k : Ghosts D) (old new : JournaledServer D) (after : List ℕ → RulesStep) : Type 0 where
  pub chosen : List ℕ
  pub any_moment : IsKept k old → LeavesStep k (disk_in old) (disk_in new) (made_of old) (crash (core_of old)) (noted_of old)
      (crash (after chosen).state) (after chosen).notes
  pub idle : crash (core_of old) ≡ crash (after chosen).state → asking (after chosen).notes ≡ [] → disk_in new ≡ disk_in old

-- the same if no placer is asked, and nothing is told
abbrev pub CutOffBefore : {D : Type 0} → Ghosts D → (old new : JournaledServer D) → (after : Server) → Type 0
CutOffBefore k old new after = CutOff k old new (λ chosen. still after)

-- a call that was refused: nothing changed
pub record Stays {D : Type 0} (old new : JournaledServer D) : Type 0 where
  pub server : core_of new ≡ core_of old
  pub log : new.log ≡ old.log
  pub made : made_of new ≡ made_of old
  pub noted : noted_of new ≡ noted_of old
  pub goes_on : is_over_in new ≡ false

-- ---- files

-- the step in which a file is made on these drives, or refused
abbrev pub making : Server → (file : ℕ) → RawMap → (tag : ℕ) → (zoned : Bool) → (chosen : List ℕ) → RulesStep
making s file raw tag zoned chosen = unless_made s (create_file s file raw tag zoned chosen)

-- a file isn't made, since the rules refuse it
pub record IsRefused {D : Type 0} (old new : JournaledServer D) (file : ℕ) (raw : RawMap) (zoned : Bool) (e : JournalFileErr)
    : Type 0 where
  pub reason : Refusal
  pub refused : refusal (core_of old) file raw zoned ≡ Some reason
  pub told : e ≡ file_told_by (cause_of reason)
  pub stays : Stays old new

-- why it isn't made: the rules refuse it, or the call was cut off
abbrev pub MakesNot : {D : Type 0} → Ghosts D → (old new : JournaledServer D) → (file : ℕ) → RawMap → (tag : ℕ)
    → (zoned : Bool) → JournalFileErr → Type 0
MakesNot k old new file raw tag zoned (made.Journal e) =
    IsOfDisk e × (is_over_in new ≡ true) × HasErrCause (k.faults (disk_in old)) (k.faults (disk_in new)) e
    × CutOff k old new (making (core_of old) file raw tag zoned)
MakesNot k old new file raw tag zoned e = IsRefused old new file raw zoned e

-- ---- drives

-- the server after a drive is put into a zone
abbrev pub after_putting : Server → (drive zone : ℕ) → Server
after_putting s drive zone = record s { drives = put_in_zone s.drives drive zone }
