-- The opening of a journal, and contents that aren't one.
use Rattle.std.specs.Prelude.{◌≡◌, ◌⊎◌, ℕ, List, [], ◌∷◌, ◌++◌, length, None}
use Rattle.osd_disk.specs.Crashes.{LeavesOnly, OnlyRead}
use Rattle.osd_disk.specs.declared.disk.Disk.{Ghosts}
use Rattle.gate_log.specs.Broken.{IsBrokenAt}
use Rattle.gate_log.specs.declared.reader.LogReader.{LogReader}
use Rattle.gate_log.specs.Logs.{IsFront}
use Rattle.gate_log.specs.Standing.{HasRead}
use Rattle.server_rules.specs.declared.notes.Note.{Note}
use Rattle.server_rules.specs.declared.server.Server.{Server}
use Rattle.server_rules.specs.Openings.{crash, reopen}
use Rattle.server_state.specs.declared.step.Step.{Step}
use Rattle.server_state.specs.States.{Did}
use Rattle.server_journal.specs.declared.server.JournaledServer.{JournaledServer}
use Rattle.server_journal.specs.Counters.{CountsOn}
use Rattle.server_journal.specs.Header.{journal_header}
use Rattle.server_journal.specs.declared.made.MadeObject.{MadeObject}
use Rattle.server_journal.specs.Journals.{IsJournalWith, IsKept, StandsBesideStep, core_of, disk_in, made_of, noted_of}
use Rattle.server_journal.specs.Made.{made_by}
use Rattle.server_journal.specs.Notes.{notes_kept}
use Rattle.server_notes.specs.Asking.{asking}
use Rattle.server_journal.specs.Records.{LeadTo, after_record}

-- this header and these bodies stand in front of a gate, which is at this place
pub record StandBefore (header : List ℕ) (bodies : List (List ℕ)) (c : List ℕ) (at : ℕ) : Type 0 where
  pub front : List ℕ
  pub is_front : IsFront header bodies front
  pub gate : ℕ
  pub rest : List ℕ
  pub contents : c ≡ front ++ gate ∷ rest
  pub place : at ≡ length front

-- the records that a reader has read lead to the server, tell of these objects and keep these notes
pub record HasTaken {D : Type 0} (k : Ghosts D) (s : Server) (made : List MadeObject) (notes : List Note) (reader : LogReader D)
    : Type 0 where
  pub records : List (List ℕ)
  pub lead : LeadTo records s
  pub objects : made_by records ≡ made
  pub noted : notes_kept records ≡ notes
  pub read : HasRead k.tells k.seen k.may_leave journal_header records reader

-- contents stand for the server that these contents stood for, before the step of its opening or after it, with its notes
abbrev pub IsOfOpening : (opened c : List ℕ) → Type 0
IsOfOpening opened c =
    (s : Server) × (made : List MadeObject) × (notes : List Note) × IsJournalWith s made notes opened
    × StandsBesideStep made s notes (crash (reopen s).state) (reopen s).notes c

-- A crash while a disk is opened leaves what it might have left before, or what comes of the step of the opening.
abbrev pub LeavesOpening : {D : Type 0} → Ghosts D → (old new : D) → Type 0
LeavesOpening k old new = LeavesOnly k.moment k.left_since old new (λ c. k.may_leave old c ⊎ IsOfOpening (k.seen old) c)

-- the contents of a disk stood for a server without jobs, and this is what the rules make of it at its opening
pub record Opened {D : Type 0} (k : Ghosts D) (disk : D) (new : JournaledServer D) (out : Step) : Type 0 where
  pub before : Server
  pub notes : List Note
  pub stood : IsJournalWith before (made_of new) notes (k.seen disk)
  pub did : Did out (core_of new) (reopen before)
  pub noted : noted_of new ≡ notes ++ asking out.notes
  pub kept : IsKept k new
  pub counts : CountsOn before (core_of new)
  pub any_moment : LeavesOpening k disk (disk_in new)
  -- nothing is written if the step changes nothing that is kept, and none of its notes asks for something
  pub idle : before ≡ crash (reopen before).state → asking out.notes ≡ []
      → OnlyRead k.tells k.seen k.may_leave k.moment k.left_since disk (disk_in new)

-- ---- refusals

-- the contents begin with another header
pub record HasOtherHeader (c : List ℕ) (at : ℕ) : Type 0 where
  pub header : List ℕ
  pub gate : ℕ
  pub stands : StandBefore header [] c gate
  pub other : header ≡ journal_header → ⊥
  pub place : at ≡ 0

-- the record whose gate stands at this place spells no entries, or one of which nothing can be made
pub record IsUnmade (c : List ℕ) (at : ℕ) : Type 0 where
  pub records : List (List ℕ)
  pub server : Server
  pub lead : LeadTo records server
  pub stand : StandBefore journal_header records c at
  pub bytes : List ℕ
  pub next : ℕ
  pub behind : StandBefore journal_header (records ++ bytes ∷ []) c next
  pub none : after_record server bytes ≡ None

-- contents are no journal from this place on
abbrev pub IsNoJournalAt : List ℕ → ℕ → Type 0
IsNoJournalAt c at = IsBrokenAt c at ⊎ HasOtherHeader c at ⊎ IsUnmade c at
