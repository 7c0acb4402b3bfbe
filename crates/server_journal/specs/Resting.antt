-- What a crash leaves of a journal while no call of its disk is made.
use Rattle.std.specs.Prelude.{ℕ, List}
use Rattle.std.proofs.Common.{inl, inr, ⊎_elim, sym, subst}
use Rattle.osd_disk.specs.declared.disk.Disk.{Ghosts}
use Rattle.gate_log.specs.declared.log.GateLog.{GateLog}
use Rattle.gate_log.specs.Standing.{disk_of}
use Rattle.server_rules.specs.declared.notes.Note.{Note}
use Rattle.server_rules.specs.declared.server.Server.{Server}
use Rattle.server_journal.specs.declared.made.MadeObject.{MadeObject}
use Rattle.server_journal.specs.Journals.{IsJournalOf, IsJournalWith, KeepsServer, LeavesEither, LeavesStep, StandForEither, StandsBesideStep}

-- contents that tell of objects and notes too stand for the server
pub journal_of : (s : Server) (made : List MadeObject) (notes : List Note) (c : List ℕ) → IsJournalWith s made notes c
    → IsJournalOf s c
journal_of s made notes c is = record { records = is.records; log = is.log; lead = is.lead }

module _ {D : Type 0} (k : Ghosts D) where
  -- what a read gives stands for the server
  pub stands : (s : Server) (made : List MadeObject) (notes : List Note) (log : GateLog D) → KeepsServer k s made notes log
      → IsJournalWith s made notes (k.seen (disk_of log))
  stands s made notes log kept = record {
    records = kept.records;
    log = record { front = kept.rest.front; is_front = kept.rest.is_front; rest = kept.rest.rest; contents = kept.rest.contents };
    lead = kept.lead;
    objects = kept.objects;
    noted = kept.noted;
  }

  -- and so does whatever a crash leaves
  pub leaves_with : (s : Server) (made : List MadeObject) (notes : List Note) (log : GateLog D) → KeepsServer k s made notes log
      → (c : List ℕ) → k.may_leave (disk_of log) c → IsJournalWith s made notes c
  leaves_with s made notes log kept c left =
      subst (IsJournalWith s made notes) (sym (kept.rest.durable c left)) (stands s made notes log kept)

  pub kept_leaves : (s : Server) (made : List MadeObject) (notes : List Note) (log : GateLog D) → KeepsServer k s made notes log
      → (c : List ℕ) → k.may_leave (disk_of log) c → IsJournalOf s c
  kept_leaves s made notes log kept c left = journal_of s made notes c (leaves_with s made notes log kept c left)

  -- and what a step leaves stands for the server before it or after it
  pub step_leaves : (old new : D) (made : List MadeObject) (before : Server) (notes : List Note) (after : Server)
      (told : List Note) → LeavesStep k old new made before notes after told → LeavesEither k old new before after
  step_leaves old new made before notes after told leaves = record {
    later = leaves.later;
    each = λ c left. either c (leaves.each c left);
    before = λ t c le left. ⊎_elim inl (λ has. inr (either c has)) (leaves.before t c le left);
  }
    where
      either : (c : List ℕ) → StandsBesideStep made before notes after told c → StandForEither before after c
      either c (inl is) = inl (journal_of before made notes c is)
      either c (inr is) = inr (journal_of after made _ c is)
