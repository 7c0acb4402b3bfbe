-- Reading the records of a journal, one after the other.
use Rattle.std.proofs.Common.{◌≡◌, ◌⊎◌, inl, inr, ℕ, List, [], ◌∷◌, ◌++◌, Some, None, refl, sym, ◌∙◌, ap, subst}
use Rattle.std.proofs.lemmas.List.Elements.{filter_map-append}
use Rattle.osd_disk.specs.Crashes.{OnlyRead}
use Rattle.osd_disk.specs.declared.disk.Disk.{Ghosts}
use Rattle.osd_disk.proofs.Moments.{leaves_as_before, read_again}
use Rattle.gate_log.specs.declared.log.GateLog.{GateLog}
use Rattle.gate_log.specs.declared.reader.LogReader.{LogReader}
use Rattle.gate_log.specs.declared.errors.LogErr.{LogErr}
use Rattle.gate_log.specs.declared.errors.LogErr.TheVariants as log
use Rattle.gate_log.specs.Broken.{IsBrokenAt}
use Rattle.gate_log.specs.Errors.{NotALogSays}
use Rattle.gate_log.specs.Standing.{HasRead, IsAtRest, StandsAt, disk_of, place_of, read_disk}
use Rattle.server_rules.specs.declared.notes.Note.{Note}
use Rattle.server_rules.specs.declared.server.Server.{Server}
use Rattle.server_rules.specs.Making.{new_server}
use Rattle.server_rules.specs.Openings.{crash, reopen}
use Rattle.server_journal.specs.declared.errors.JournalErr.{JournalErr}
use Rattle.server_journal.specs.declared.errors.JournalErr.TheVariants as journal
use Rattle.server_journal.specs.Errors.{IsOfDisk, NotAJournalSays, NotEmptySays, told_by}
use Rattle.server_journal.specs.Header.{journal_header}
use Rattle.server_journal.specs.Journals.{IsJournalWith, KeepsServer, LeavesStep}
use Rattle.server_journal.specs.Made.{made_by, made_in}
use Rattle.server_journal.specs.Notes.{after_body}
use Rattle.server_journal.specs.declared.made.MadeObject.{MadeObject}
use Rattle.server_journal.specs.Opening.{HasTaken, IsNoJournalAt, IsOfOpening, LeavesOpening, StandBefore}
use Rattle.server_journal.specs.Records.{after_record}
use Rattle.server_journal.specs.Resting.{stands}
use Rattle.server_journal.proofs.JournalLaws.{on_and_on, weaker}
use Rattle.server_journal.proofs.RecordLaws.{lead_more}
use Rattle.server_journal.proofs.StepLaws.{notes_after-then}

-- an error of the disk refuses no contents
pub no_size : (P : ℕ → Type 0) (e : JournalErr) → IsOfDisk e → NotEmptySays P e
no_size P (journal.NotEmpty size) of_disk = absurd of_disk
no_size P journal.DiskFault of_disk = tt
no_size P (journal.NotAJournal at) of_disk = of_disk
no_size P journal.Memory of_disk = tt

pub no_place : (P : ℕ → Type 0) (e : JournalErr) → IsOfDisk e → NotAJournalSays P e
no_place P (journal.NotEmpty size) of_disk = of_disk
no_place P journal.DiskFault of_disk = tt
no_place P (journal.NotAJournal at) of_disk = absurd of_disk
no_place P journal.Memory of_disk = tt

-- a refusal of contents says what follows of that
pub says_so : (P Q : ℕ → Type 0) (e : JournalErr) → ((at : ℕ) → P at → Q at) → NotAJournalSays P e → NotAJournalSays Q e
says_so P Q (journal.NotEmpty size) so says = says
says_so P Q journal.DiskFault so says = says
says_so P Q (journal.NotAJournal at) so says = so at says
says_so P Q journal.Memory so says = says

module _ {D : Type 0} (k : Ghosts D) where
  abbrev Reads : (old new : LogReader D) (bytes : List ℕ) → Type 0
  Reads old new bytes = (header : List ℕ) (bodies : List (List ℕ)) → HasRead k.tells k.seen k.may_leave header bodies old
      → HasRead k.tells k.seen k.may_leave header (bodies ++ bytes ∷ []) new

  stand : (header : List ℕ) (bodies : List (List ℕ)) (disk : D) (at gate : ℕ) (c : List ℕ)
      → StandsAt k.tells k.seen k.may_leave header bodies disk at gate → k.seen disk ≡ c → StandBefore header bodies c at
  stand header bodies disk at gate c s same = record {
    front = s.front;
    is_front = s.is_front;
    gate = gate;
    rest = s.rest;
    contents = sym same ∙ s.contents;
    place = s.place;
  }

  -- another header
  pub other_header_at : (header : List ℕ) (disk : D) (at gate : ℕ) (c : List ℕ) →
      StandsAt k.tells k.seen k.may_leave header [] disk at gate
      → k.seen disk ≡ c → (header ≡ journal_header → ⊥) → IsNoJournalAt c 0
  other_header_at header disk at gate c s same other = inr (inl (record {
    header = header;
    gate = at;
    stands = stand header [] disk at gate c s same;
    other = other;
    place = refl;
  }))

  -- before the first record
  pub taken_first : (header : List ℕ) (reader : LogReader D) → header ≡ journal_header →
      HasRead k.tells k.seen k.may_leave header [] reader
      → HasTaken k (new_server []) [] [] reader
  taken_first header reader is read = record {
    records = [];
    lead = refl;
    objects = refl;
    noted = refl;
    read = subst (λ (h : List ℕ). HasRead k.tells k.seen k.may_leave h [] reader) is read;
  }

  -- one record more
  pub taken_more : (s t : Server) (made now : List MadeObject) (notes left : List Note) (bytes : List ℕ) (old new : LogReader D)
      → HasTaken k s made notes old → after_record s bytes ≡ Some t → now ≡ made ++ made_by (bytes ∷ [])
      → left ≡ after_body notes bytes → Reads old new bytes → HasTaken k t now left new
  taken_more s t made now notes left bytes old new taken leads tells keeps reads = record {
    records = taken.records ++ bytes ∷ [];
    lead = lead_more taken.records s t bytes taken.lead leads;
    objects = filter_map-append made_in taken.records (bytes ∷ [])
        ∙ ap (λ (ms : List MadeObject). ms ++ made_by (bytes ∷ [])) taken.objects ∙ sym tells;
    noted = notes_after-then [] taken.records (bytes ∷ [])
        ∙ ap (λ (ns : List Note). after_body ns bytes) taken.noted ∙ sym keeps;
    read = reads journal_header taken.records taken.read;
  }

  -- none more
  pub taken_none : (s : Server) (made : List MadeObject) (notes : List Note) (old new : LogReader D) → HasTaken k s made notes old
      → ((header : List ℕ) (bodies : List (List ℕ)) → HasRead k.tells k.seen k.may_leave header bodies old →
      HasRead k.tells k.seen k.may_leave header bodies new)
      → HasTaken k s made notes new
  taken_none s made notes old new taken reads = record {
    records = taken.records;
    lead = taken.lead;
    objects = taken.objects;
    noted = taken.noted;
    read = reads journal_header taken.records taken.read;
  }

  -- one of which nothing can be made
  pub not_taken : (s : Server) (made : List MadeObject) (notes : List Note) (bytes : List ℕ) (old new : LogReader D) (c : List ℕ)
      (at : ℕ)
      → HasTaken k s made notes old →
      after_record s bytes ≡ None
      → Reads old new bytes → k.seen (read_disk old) ≡ c → k.seen (read_disk new) ≡ c → at ≡ place_of old → IsNoJournalAt c at
  not_taken s made notes bytes old new c at taken none reads seen_old seen_new is =
      let behind = reads journal_header taken.records taken.read in
      subst (λ (n : ℕ). IsNoJournalAt c n) (sym is) (inr (inr (record {
        records = taken.records;
        server = s;
        lead = taken.lead;
        stand = stand journal_header taken.records (read_disk old) _ _ c taken.read.stands seen_old;
        bytes = bytes;
        next = place_of new;
        behind = stand journal_header (taken.records ++ bytes ∷ []) (read_disk new) _ _ c behind.stands seen_new;
        none = none;
      })))

  -- the log's error is one of the journal
  pub broken_told : (s : Server) (made : List MadeObject) (notes : List Note) (reader : LogReader D) (c : List ℕ) (e : LogErr)
      (T : Type 0) → (T → HasTaken k s made notes reader)
      → NotALogSays
      (λ at. (header : List ℕ) (bodies : List (List ℕ)) → HasRead k.tells k.seen k.may_leave header bodies reader →
      IsBrokenAt (k.seen (read_disk reader)) at) e
      → k.seen (read_disk reader) ≡ c → NotAJournalSays (λ at. T → IsNoJournalAt c at) (told_by e)
  broken_told s made notes reader c (log.NotEmpty size) T taken says same = says
  broken_told s made notes reader c (log.NotALog at) T taken says same =
      λ t. let has = taken t in inl (subst (λ (x : List ℕ). IsBrokenAt x at) same (says journal_header has.records has.read))
  broken_told s made notes reader c log.DiskFault T taken says same = says
  broken_told s made notes reader c log.Memory T taken says same = says

  -- a log that was read to its end has the server
  pub taken_kept : (s : Server) (made : List MadeObject) (notes : List Note) (reader : LogReader D) (log : GateLog D)
      → HasTaken k s made notes reader
      → ((header : List ℕ) (bodies : List (List ℕ)) → HasRead k.tells k.seen k.may_leave header bodies reader →
      IsAtRest k.tells k.seen k.may_leave header bodies log)
      → KeepsServer k s made notes log
  taken_kept s made notes reader log taken rests = record {
    records = taken.records;
    rest = rests journal_header taken.records taken.read;
    lead = taken.lead;
    objects = taken.objects;
    noted = taken.noted;
  }

  -- a new log has the server without drives and files
  pub new_kept : (header : List ℕ) (log : GateLog D) → header ≡ journal_header →
      IsAtRest k.tells k.seen k.may_leave header [] log → KeepsServer k (new_server []) [] [] log
  new_kept header log is rest = record {
    records = [];
    rest = subst (λ (h : List ℕ). IsAtRest k.tells k.seen k.may_leave h [] log) is rest;
    lead = refl;
    objects = refl;
    noted = refl;
  }

  -- what was read is a journal of the server
  pub stood_for : (disk : D) (s : Server) (made : List MadeObject) (notes : List Note) (log : GateLog D) →
      OnlyRead k.tells k.seen k.may_leave k.moment k.left_since disk (disk_of log) → KeepsServer k s made notes log
      → IsJournalWith s made notes (k.seen disk)
  stood_for disk s made notes log read kept =
      subst (λ (c : List ℕ). IsJournalWith s made notes c) read.seen_same (stands k s made notes log kept)

  -- and then what the step of the opening changed was added, or wasn't
  pub opening_leaves : ((d : D) (c : List ℕ) → k.left_since d (k.moment d) c → k.may_leave d c) →
      (disk new : D) (s : Server) (made : List MadeObject) (notes : List Note) (log : GateLog D)
      → OnlyRead k.tells k.seen k.may_leave k.moment k.left_since disk (disk_of log) → KeepsServer k s made notes log
      → LeavesStep k (disk_of log) new made s notes (crash (reopen s).state) (reopen s).notes → LeavesOpening k disk new
  opening_leaves only_now disk new s made notes log read kept leaves =
      on_and_on k disk (disk_of log) new (λ c. k.may_leave disk c ⊎ IsOfOpening (k.seen disk) c)
      (leaves_as_before k.tells k.seen k.may_leave k.moment k.left_since disk (disk_of log)
      (λ c. k.may_leave disk c ⊎ IsOfOpening (k.seen disk) c) read only_now (λ c left. inl left))
      (weaker k (disk_of log) new _ (λ c. k.may_leave disk c ⊎ IsOfOpening (k.seen disk) c) leaves
      (λ c either. inr (s, made, notes, stood_for disk s made notes log read kept, either)))

  -- where it was only read, a crash left nothing else than before
  pub read_leaves : ((d : D) (c : List ℕ) → k.left_since d (k.moment d) c → k.may_leave d c) → (disk read new : D) → new ≡ read
      → OnlyRead k.tells k.seen k.may_leave k.moment k.left_since disk read → LeavesOpening k disk new
  read_leaves only_now disk read new same only_read =
      subst (λ (d : D). LeavesOpening k disk d) (sym same)
      (leaves_as_before k.tells k.seen k.may_leave k.moment k.left_since disk read
      (λ c. k.may_leave disk c ⊎ IsOfOpening (k.seen disk) c)
      only_read only_now (λ c left. inl left))

  -- the disk of the log was only read so far
  pub read_so_far : (disk : D) (first reader : LogReader D) (log : GateLog D) →
      OnlyRead k.tells k.seen k.may_leave k.moment k.left_since disk (read_disk first)
      → OnlyRead k.tells k.seen k.may_leave k.moment k.left_since (read_disk first) (read_disk reader) →
      disk_of log ≡ read_disk reader
      → OnlyRead k.tells k.seen k.may_leave k.moment k.left_since disk (disk_of log)
  read_so_far disk first reader log begun more same =
      subst (λ (d : D). OnlyRead k.tells k.seen k.may_leave k.moment k.left_since disk d) (sym same)
      (read_again k.tells k.seen k.may_leave k.moment k.left_since disk (read_disk first) (read_disk reader) begun more)

  -- and it is where no call was made since
  pub read_still : (disk read new : D) → new ≡ read → OnlyRead k.tells k.seen k.may_leave k.moment k.left_since disk read
      → OnlyRead k.tells k.seen k.may_leave k.moment k.left_since disk new
  read_still disk read new same only_read =
      subst (λ (d : D). OnlyRead k.tells k.seen k.may_leave k.moment k.left_since disk d) (sym same) only_read
