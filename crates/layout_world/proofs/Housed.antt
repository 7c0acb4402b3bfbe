-- What calls of a journaled server leave of the server of a world.
use Rattle.std.proofs.Common.{◌≡◌, ◌+◌, ◌<◌, inl, inr, ℕ, Bool, true, false, List, [], ◌∷◌, map, length, Option, Some, None, Result, Err, refl, sym, ap, subst, ◌∙◌, arith}
use Rattle.std.specs.Prelude.{◌==◌, option_map}
use Rattle.std.proofs.lemmas.Bool.{cases_Bool}
use Rattle.data_map.specs.declared.check.RawMap.{RawMap}
use Rattle.osd_disk.specs.declared.disk.Disk.{Ghosts}
use Rattle.osd_disk.specs.Medium.{Medium}
use Rattle.gate_log.specs.declared.log.GateLog.{GateLog}
use Rattle.server_rules.specs.declared.files.File.{File}
use Rattle.server_rules.specs.Making.{new_server}
use Rattle.server_rules.specs.declared.notes.Note.{Note}
use Rattle.server_rules.specs.declared.server.Server.{Server}
use Rattle.server_rules.specs.Files.{file_at}
use Rattle.server_rules.specs.Openings.{crash, crashed_file}
use Rattle.layout_server.specs.declared.new_files.FileErr.{FileErr}
use Rattle.layout_server.specs.declared.new_files.FileErr.TheVariants as file
use Rattle.layout_server.specs.Calls as layout
use Rattle.layout_server.specs.Creating.{cause_of}
use Rattle.server_journal.specs.declared.errors.JournalErr.{JournalErr}
use Rattle.server_journal.specs.declared.errors.JournalErr.TheVariants.{NotEmpty, DiskFault, NotAJournal, Memory}
use Rattle.server_journal.specs.declared.errors.JournalFileErr.{JournalFileErr}
use Rattle.server_journal.specs.declared.errors.JournalFileErr.TheVariants as made
use Rattle.server_journal.specs.declared.server.JournaledServer.{JournaledServer}
use Rattle.server_journal.specs.Calls.{IsRefused, MakesNot, Stays}
use Rattle.server_journal.specs.Errors.{HasErrCause, HasJournalCause, IsOfDisk, NotAJournalSays, NotEmptySays, file_told_by}
use Rattle.server_journal.specs.declared.made.MadeObject.{MadeObject}
use Rattle.server_journal.specs.Journals.{IsKept, KeepsServer, core_of, is_over_in, made_of, noted_of}
use Rattle.layout_world.specs.Machine.{IsWell, told_back}

-- ---- a journal whose disk doesn't fail, and whose contents aren't refused, wants memory

never : HasErrCause 0 0 DiskFault → ⊥
never cause = let rose = cause.failed refl in omega (arith, rose)

pub none_was_refused : (P : ℕ → Type 0) (e : JournalErr) → NotEmptySays P e → ((size : ℕ) → P size → ⊥) → HasErrCause 0 0 e →
    e ≡ Memory
none_was_refused P (NotEmpty size) says none cause = absurd (none size says)
none_was_refused P DiskFault says none cause = absurd (never cause)
none_was_refused P (NotAJournal at) says none cause = absurd says
none_was_refused P Memory says none cause = refl

pub all_was_taken : (P : ℕ → Type 0) (e : JournalErr) → NotAJournalSays P e → ((at : ℕ) → P at → ⊥) → HasErrCause 0 0 e →
    e ≡ Memory
all_was_taken P (NotEmpty size) says none cause = absurd says
all_was_taken P DiskFault says none cause = absurd (never cause)
all_was_taken P (NotAJournal at) says none cause = absurd (none at says)
all_was_taken P Memory says none cause = refl

pub is_want : {T : Type 0} (e : JournalErr) (r : Result T JournalErr) → r ≡ Err e → IsOfDisk e → HasJournalCause 0 0 r →
    e ≡ Memory
is_want (NotEmpty size) r is of cause = absurd of
is_want DiskFault r is of cause = let rose = cause.failed is in absurd (omega (arith, rose))
is_want (NotAJournal at) r is of cause = absurd of
is_want Memory r is of cause = refl

-- ---- a journal after a call

module _ (k : Ghosts Medium) where
  pub well_over : (j : JournaledServer Medium) → is_over_in j ≡ true → IsWell k j
  well_over j over = λ on. absurd (cc (sym over ∙ on))

  -- a call that was refused leaves its log
  pub well_still : (old new : JournaledServer Medium) → IsKept k old → Stays old new → IsWell k new
  well_still old new kept s = λ on.
      subst (λ (l : GateLog Medium). KeepsServer k (crash (core_of new)) (made_of new) (noted_of new) l) (sym s.log)
      (subst (λ (ns : List Note). KeepsServer k (crash (core_of new)) (made_of new) ns old.log) (sym s.noted)
      (subst (λ (ms : List MadeObject). KeepsServer k (crash (core_of new)) ms (noted_of old) old.log) (sym s.made)
      (subst (λ (x : Server). KeepsServer k (crash x) (made_of old) (noted_of old) old.log) (sym s.server) kept)))

  -- ---- a file that isn't made

  told_again : (e : FileErr) → told_back (file_told_by e) ≡ e
  told_again file.FileExists = refl
  told_again (file.BadMap why) = refl
  told_again (file.TooFewDrives online) = refl
  told_again (file.NoSpread online) = refl
  told_again file.Memory = refl

  refused_so : (old new : JournaledServer Medium) (n : ℕ) (m : RawMap) (zoned : Bool) (e : JournalFileErr) →
      IsRefused old new n m zoned e
      → layout.IsRefused n m zoned (core_of old) (core_of new) (told_back e)
  refused_so old new n m zoned e r = λ other.
      (r.reason, r.refused, ap (λ (x : JournalFileErr). told_back x) r.told ∙ told_again (cause_of r.reason), r.stays.server)

  -- a call that makes no file leaves a journal, and says what a server without one says
  pub refused_back : (old new : JournaledServer Medium) (n : ℕ) (m : RawMap) (tag : ℕ) (zoned : Bool) (e : JournalFileErr) →
      IsKept k old
      → MakesNot k old new n m tag zoned e → layout.IsRefused n m zoned (core_of old) (core_of new) (told_back e) × IsWell k new
  refused_back old new n m tag zoned made.FileExists kept h =
      (refused_so old new n m zoned made.FileExists h, well_still old new kept h.stays)
  refused_back old new n m tag zoned (made.BadMap why) kept h =
      (refused_so old new n m zoned (made.BadMap why) h, well_still old new kept h.stays)
  refused_back old new n m tag zoned (made.TooFewDrives online) kept h =
      (refused_so old new n m zoned (made.TooFewDrives online) h, well_still old new kept h.stays)
  refused_back old new n m tag zoned (made.NoSpread online) kept h =
      (refused_so old new n m zoned (made.NoSpread online) h, well_still old new kept h.stays)
  refused_back old new n m tag zoned (made.Journal e) kept h = ((λ other. absurd (other refl)), well_over new h.1)

-- ---- what is told of a server that is down

-- a crash leaves what is kept of each file
pub kept_there : (fs : List File) (n : ℕ) →
    option_map (λ (f : File). f.kept) (file_at (map crashed_file fs) n) ≡ option_map (λ (f : File). f.kept) (file_at fs n)
unfolding file_at
kept_there [] n = refl
kept_there (f ∷ fs) n =
    elim (cases_Bool (f.kept.number == n)) [ inl here ↦ rw here refl | inr elsewhere ↦ rw elsewhere (kept_there fs n) ]

-- where there is no server there is no file
pub none_there : (n : ℕ) → None ≡ option_map (λ (f : File). f.kept) (file_at (new_server []).files n)
unfolding file_at
none_there n = refl
