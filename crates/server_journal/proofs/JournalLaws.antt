-- How a journal goes from one server to the next, and what a crash leaves meanwhile.
use Rattle.std.proofs.Common.{◌≡◌, ◌⊎◌, inl, inr, ⊎_elim, ℕ, List, [], ◌++◌, Bool, false, Some, Result, Ok, Err, OnErr, refl, sym, ◌∙◌, ap, subst, arith}
use Rattle.osd_disk.specs.Crashes.{LeavesOnly}
use Rattle.osd_disk.specs.declared.disk.Disk.{Ghosts}
use Rattle.gate_log.specs.declared.log.GateLog.{GateLog}
use Rattle.gate_log.specs.Standing.{disk_of}
use Rattle.layout_types.specs.Grammar.{whole}
use Rattle.data_map.specs.declared.check.RawMap.{RawMap}
use Rattle.server_rules.specs.declared.server.Refusal.{Refusal}
use Rattle.server_rules.specs.declared.notes.Note.{Note}
use Rattle.server_rules.specs.declared.server.Server.{Server}
use Rattle.server_rules.specs.Files.{Step}
use Rattle.server_rules.specs.History.{unless_made}
use Rattle.server_rules.specs.Making.{create_file, refusal}
use Rattle.server_rules.specs.Openings.{crash}
use Rattle.server_entries.specs.Reading.{record_in}
use Rattle.server_entries.specs.declared.record.Record.{Record}
use Rattle.kept_server.specs.Views.{Keeping}
use Rattle.kept_server.specs.Keeping.{Follows, IsQuiet, Keeps}
use Rattle.layout_server.specs.Creating.{cause_of}
use Rattle.layout_server.specs.declared.new_files.FileErr.{FileErr}
use Rattle.layout_server.specs.declared.new_files.FileErr.TheVariants as cause
use Rattle.server_journal.specs.declared.server.JournaledServer.{JournaledServer}
use Rattle.server_journal.specs.declared.errors.JournalErr.{JournalErr}
use Rattle.server_journal.specs.Calls.{Answered, CutOff, MakesNot, Stays, making}
use Rattle.server_journal.specs.Counters.{CountsOn}
use Rattle.server_journal.specs.Errors.{HasErrCause, HasJournalCause, file_told_by}
use Rattle.server_journal.specs.Journals.{IsJournalWith, IsKept, KeepsServer, LeavesStep, core_of, disk_in, made_of, noted_of}
use Rattle.server_notes.specs.Asking.{asking}
use Rattle.server_journal.specs.declared.made.MadeObject.{MadeObject}
use Rattle.server_journal.specs.Resting.{leaves_with}
use Rattle.server_journal.proofs.CounterLaws.{entries_count}

-- what holds anyhow holds at an error
pub at_error : {T E : Type 0} (r : Result T E) (P : Type 0) → P → OnErr r P
at_error (Ok x) P holds = tt
at_error (Err e) P holds = holds

-- what spells this record spells that
pub spelled : (bytes : List ℕ) (r s : Record) → r ≡ s → whole record_in bytes ≡ Ok r → whole record_in bytes ≡ Ok s
spelled bytes r s same is = is ∙ ap (λ (x : Record). Ok x) same

-- an error's cause, told without the result
pub journal_cause : {T : Type 0} (before now : ℕ) (e : JournalErr) (r : Result T JournalErr) → HasJournalCause before now r →
    r ≡ Err e → HasErrCause before now e
journal_cause before now e r cause is = record {
  later = cause.later;
  failed = λ fault. cause.failed (is ∙ ap (λ (x : JournalErr). Err x) fault);
}

-- the step in which a file was made is the rules'
pub made_so : (old : Server) (file : ℕ) (raw : RawMap) (tag : ℕ) (zoned : Bool) (chosen : List ℕ) (step : Step)
    → create_file old file raw tag zoned chosen ≡ Ok step → step ≡ making old file raw tag zoned chosen
made_so old file raw tag zoned chosen step made = ap (λ (r : Result Step Refusal). unless_made old r) (sym made)

module _ {D : Type 0} (k : Ghosts D) where
  -- what has P has Q
  pub weaker : (old new : D) (P Q : List ℕ → Type 0) → LeavesOnly k.moment k.left_since old new P → ((c : List ℕ) → P c → Q c)
      → LeavesOnly k.moment k.left_since old new Q
  weaker old new P Q leaves so = record {
    later = leaves.later;
    each = λ c left. so c (leaves.each c left);
    before = λ t c le left. ⊎_elim inl (λ has. inr (so c has)) (leaves.before t c le left);
  }

  -- one stretch after another
  pub on_and_on : (old mid new : D) (P : List ℕ → Type 0) → LeavesOnly k.moment k.left_since old mid P →
      LeavesOnly k.moment k.left_since mid new P
      → LeavesOnly k.moment k.left_since old new P
  on_and_on old mid new P first next = record {
    later = omega (arith, first.later, next.later);
    each = λ c left. ⊎_elim (first.each c) (λ has. has) (next.before (k.moment old) c first.later left);
    before = λ t c le left. ⊎_elim (first.before t c le) inr (next.before t c (omega (arith, le, first.later)) left);
  }

  -- where no call is made
  pub still : ((disk : D) (c : List ℕ) → k.left_since disk (k.moment disk) c → k.may_leave disk c)
      → (s t : Server) (made : List MadeObject) (notes told : List Note) (log : GateLog D)
      → KeepsServer k s made notes log → LeavesStep k (disk_of log) (disk_of log) made s notes t told
  still only_now s t made notes told log kept = record {
    later = omega arith;
    each = λ c left. inl (leaves_with k s made notes log kept c (only_now (disk_of log) c left));
    before = λ t c le left. inl left;
  }

  -- nor is anything told
  pub told_nothing : ((disk : D) (c : List ℕ) → k.left_since disk (k.moment disk) c → k.may_leave disk c)
      → (s : Server) (made : List MadeObject) (notes : List Note) (Else : List ℕ → Type 0) (log : GateLog D)
      → KeepsServer k s made notes log
      → LeavesOnly k.moment k.left_since (disk_of log) (disk_of log) (λ c. IsJournalWith s made notes c ⊎ Else c)
  told_nothing only_now s made notes Else log kept = record {
    later = omega arith;
    each = λ c left. inl (leaves_with k s made notes log kept c (only_now (disk_of log) c left));
    before = λ t c le left. inl left;
  }

  -- ---- calls

  -- what `keep` says of a crash meanwhile
  abbrev pub LeavesKept : (old new : JournaledServer D) (kept : Keeping) (told : List Note) → Type 0
  LeavesKept old new kept told = (was : Server) → Follows was kept → KeepsServer k was old.made old.noted old.log
      → LeavesStep k (disk_in old) (disk_in new) (made_of old) was (noted_of old) (crash kept.server) told

  -- one that was answered; `kept` is the server that it made, and this is what it told
  pub answered : (old new : JournaledServer D) (kept : Keeping) (told : List Note) → Keeps old.kept kept → IsQuiet old.kept kept
      → kept.is_over ≡ false → new.kept ≡ kept → made_of new ≡ made_of old → noted_of new ≡ noted_of old ++ asking told
      → LeavesKept old new kept told
      → ((was : Server) → Follows was kept → KeepsServer k was old.made old.noted old.log → IsKept k new)
      → (kept.changes.entries ≡ [] → asking told ≡ [] → disk_in new ≡ disk_in old) → Answered k old new told
  answered old new kept told keeps quiet runs same stay noted leaves keeps_on still = record {
    any_moment = λ is. subst (λ (x : Keeping). LeavesStep k (disk_in old) (disk_in new) (made_of old) (crash (core_of old))
        (noted_of old) (crash x.server) told)
        (sym same)
        (leaves (crash (core_of old)) (keeps runs) is);
    kept = λ is. keeps_on (crash (core_of old)) (keeps runs) is;
    made = stay;
    noted = noted;
    idle = λ is none. still (quiet runs (is ∙ ap (λ (x : Keeping). crash x.server) same)) none;
    counts = subst (λ (x : Keeping). CountsOn (core_of old) x.server) (sym same)
        (entries_count kept.changes.entries (crash (core_of old)) (crash kept.server) (keeps runs));
  }

  -- one that was cut off before anything was written
  pub stopped : ((disk : D) (c : List ℕ) → k.left_since disk (k.moment disk) c → k.may_leave disk c) →
      (old new : JournaledServer D) (after : List ℕ → Step)
      → new.log ≡ old.log → CutOff k old new after
  stopped only_now old new after same = record {
    chosen = [];
    any_moment =
        λ is. subst (λ (log : GateLog D). LeavesStep k (disk_in old) (disk_of log) (made_of old) (crash (core_of old))
        (noted_of old) (crash (after []).state) (after []).notes)
        (sym same)
        (still only_now (crash (core_of old)) (crash (after []).state) old.made old.noted (after []).notes old.log is);
    idle = λ is none. ap (λ (log : GateLog D). disk_of log) same;
  }

  -- one that was cut off while its records were added; `kept` is the server that it made
  pub cut_off : (old new : JournaledServer D) (kept : Keeping) (told : List Note) (after : List ℕ → Step) (chosen : List ℕ)
      → kept.server ≡ (after chosen).state → told ≡ (after chosen).notes
      → Keeps old.kept kept → IsQuiet old.kept kept → kept.is_over ≡ false → LeavesKept old new kept told
      → (kept.changes.entries ≡ [] → asking told ≡ [] → disk_in new ≡ disk_in old) → CutOff k old new after
  cut_off old new kept told after chosen is_after tells keeps quiet runs leaves still = record {
    chosen = chosen;
    any_moment = λ is. subst (λ (s : Server). LeavesStep k (disk_in old) (disk_in new) (made_of old) (crash (core_of old))
        (noted_of old) (crash s) (after chosen).notes) is_after
        (subst (λ (ns : List Note). LeavesStep k (disk_in old) (disk_in new) (made_of old) (crash (core_of old)) (noted_of old)
        (crash kept.server) ns) tells
        (leaves (crash (core_of old)) (keeps runs) is));
    idle = λ is none. still (quiet runs (is ∙ ap (λ (s : Server). crash s) (sym is_after)))
        (ap (λ (ns : List Note). asking ns) tells ∙ none);
  }

  -- ---- files

  -- the rules refuse a file, and nothing changed
  pub refused : (old new : JournaledServer D) (file : ℕ) (raw : RawMap) (tag : ℕ) (zoned : Bool) (e : FileErr) →
      (e ≡ cause.Memory → ⊥) → (reason : Refusal)
      → refusal (core_of old) file raw zoned ≡ Some reason → e ≡ cause_of reason → Stays old new →
      MakesNot k old new file raw tag zoned (file_told_by e)
  refused old new file raw tag zoned cause.FileExists other reason is told stays =
      record { reason = reason; refused = is; told = ap (λ (x : FileErr). file_told_by x) told; stays = stays }
  refused old new file raw tag zoned (cause.BadMap why) other reason is told stays =
      record { reason = reason; refused = is; told = ap (λ (x : FileErr). file_told_by x) told; stays = stays }
  refused old new file raw tag zoned (cause.TooFewDrives n) other reason is told stays =
      record { reason = reason; refused = is; told = ap (λ (x : FileErr). file_told_by x) told; stays = stays }
  refused old new file raw tag zoned (cause.NoSpread n) other reason is told stays =
      record { reason = reason; refused = is; told = ap (λ (x : FileErr). file_told_by x) told; stays = stays }
  refused old new file raw tag zoned cause.Memory other reason is told stays = absurd (other refl)
