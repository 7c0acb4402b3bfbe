-- What a server in a journal leaves on its disk over a step.
use Rattle.std.proofs.Common.{◌≡◌, ◌⊎◌, ⊎_elim, ℕ, List, [], ◌∷◌, ◌++◌, Ok, Result, inl, inr, refl, ◌∙◌, sym, ap, subst, arith}
use Rattle.std.proofs.Math.Bool.{or-false}
use Rattle.std.proofs.lemmas.List.Folds.{list_any-append}
use Rattle.std.specs.Prelude.{false, Bool, ◌==◌, ◌&&◌, ◌||◌}
use Rattle.osd_bytes.specs.Causes.{Rose}
use Rattle.osd_disk.specs.Crashes.{LeavesOnly}
use Rattle.osd_disk.specs.declared.disk.Disk.{Ghosts as DiskGhosts}
use Rattle.data_map.specs.declared.check.RawMap.{RawMap}
use Rattle.gate_log.specs.declared.log.GateLog.{GateLog}
use Rattle.gate_log.specs.Standing.{disk_of}
use Rattle.layout_server.specs.Creating.{cause_of}
use Rattle.server_rules.specs.declared.server.Refusal.{Refusal}
use Rattle.server_rules.specs.declared.server.Refusal.TheVariants as refusal
use Rattle.server_rules.specs.declared.notes.Note.{Note}
use Rattle.server_rules.specs.declared.server.Server.{Server}
use Rattle.server_rules.specs.Files.{Step as RulesStep}
use Rattle.server_rules.specs.History.{unless_made}
use Rattle.server_rules.specs.Making.{create_file}
use Rattle.server_rules.specs.Openings.{crash}
use Rattle.server_command.specs.declared.metadata_server.MakeErr.{MakeErr}
use Rattle.server_command.specs.declared.metadata_server.MakeErr.TheVariants as made
use Rattle.server_command.specs.declared.metadata_server.StepErr.TheVariants as step
use Rattle.server_command.specs.Knowing.{LearnsOne}
use Rattle.server_command.specs.Kept.{BrokeOff, Carries, MakesNot as NotMade, StandsForSome, WentOn}
use Rattle.server_command.specs.Steps.{ServerStep, after_step}
use Rattle.server_command.specs.Steps as steps
use Rattle.server_journal.specs.declared.errors.JournalErr.{JournalErr}
use Rattle.server_journal.specs.declared.errors.JournalErr.TheVariants as journal
use Rattle.server_journal.specs.declared.errors.JournalFileErr.{JournalFileErr}
use Rattle.server_journal.specs.declared.errors.JournalFileErr.TheVariants as file
use Rattle.server_journal.specs.Calls.{Answered, CutOff, IsRefused, MakesNot, Stays}
use Rattle.server_journal.specs.Errors.{file_told_by}
use Rattle.server_journal.specs.Journals.{IsJournalWith, IsKept, KeepsServer, LeavesEither, LeavesMade, LeavesStep, core_of, is_over_in, made_of, noted_of}
use Rattle.server_journal.specs.Resting.{journal_of, step_leaves}
use Rattle.server_journal.specs.declared.made.MadeObject.{MadeObject}
use Rattle.stored_server.specs.declared.stored_server.StoredServer.{StoredServer}
use Rattle.stored_server.specs.StoredServer.{StandsFor, is_among, kept_on, make_err_of, stays, step_err_of}

-- ---- errors

pub step_fault : (e : JournalErr) → step_err_of e ≡ step.DiskFault → e ≡ journal.DiskFault
step_fault (journal.NotEmpty size) is = absurd (cc is)
step_fault (journal.NotAJournal at) is = absurd (cc is)
step_fault journal.DiskFault is = refl
step_fault journal.Memory is = absurd (cc is)

make_fault : (e : JournalErr) → make_err_of (file.Journal e) ≡ made.DiskFault → e ≡ journal.DiskFault
make_fault (journal.NotEmpty size) is = absurd (cc is)
make_fault (journal.NotAJournal at) is = absurd (cc is)
make_fault journal.DiskFault is = refl
make_fault journal.Memory is = absurd (cc is)

-- a refusal is told as it is
told_refusal : (r : Refusal) → make_err_of (file_told_by (cause_of r)) ≡ made.Refused r
told_refusal refusal.FileExists = refl
told_refusal (refusal.BadMap why) = refl
told_refusal (refusal.TooFewDrives online) = refl
told_refusal (refusal.NoSpread online) = refl

module _ {D : Type 0} (s : DiskGhosts D) where
  -- ---- what is known of a server in a journal

  abbrev pub JournalCarries : (done cut_off : List ServerStep) → (old new : StoredServer D) → Type 0
  JournalCarries done cut_off old new =
      Carries (λ (x : StoredServer D). core_of x.journal) (λ x. is_over_in x.journal) (λ x. s.faults (kept_on x))
      (λ x. IsKept s x.journal) (λ x. s.moment (kept_on x)) (λ x. s.left_since (kept_on x)) (λ v c. StandsFor v c) done
      cut_off old new

  abbrev pub JournalWent : (done : List ServerStep) → (old new : StoredServer D) → Type 0
  JournalWent done old new =
      WentOn (λ (x : StoredServer D). core_of x.journal) (λ x. is_over_in x.journal) (λ x. s.faults (kept_on x))
      (λ x. IsKept s x.journal) (λ x. s.moment (kept_on x)) (λ x. s.left_since (kept_on x)) (λ v c. StandsFor v c) done old new

  abbrev pub JournalBroke : (done cut_off : List ServerStep) → (failed : Type 0) → (old new : StoredServer D) → Type 0
  JournalBroke done cut_off failed old new =
      BrokeOff (λ (x : StoredServer D). core_of x.journal) (λ x. is_over_in x.journal) (λ x. s.faults (kept_on x))
      (λ x. IsKept s x.journal) (λ x. s.moment (kept_on x)) (λ x. s.left_since (kept_on x)) (λ v c. StandsFor v c) done cut_off
      failed old new

  abbrev pub JournalMakesNot : (number : ℕ) → RawMap → (tag : ℕ) → (old new : StoredServer D) → MakeErr → Type 0
  JournalMakesNot number raw tag old new e =
      NotMade (λ (x : StoredServer D). core_of x.journal) (λ x. is_over_in x.journal) (λ x. s.faults (kept_on x))
      (λ x. IsKept s x.journal) (λ x. s.moment (kept_on x)) (λ x. s.left_since (kept_on x)) (λ v c. StandsFor v c) number raw
      tag old new e

  -- ---- a step

  -- what a crash leaves of it is what it leaves of its disk
  of_either : (x : ServerStep) (old new : StoredServer D) (after : Server) (told : List Note)
      → after ≡ after_step (core_of old.journal) x
      → LeavesStep s (kept_on old) (kept_on new) (made_of old.journal) (crash (core_of old.journal)) (noted_of old.journal)
      (crash after) told
      → LeavesOnly (λ (y : StoredServer D). s.moment (kept_on y)) (λ (y : StoredServer D). s.left_since (kept_on y)) old new
      (StandsForSome StandsFor (core_of old.journal) (x ∷ []))
  of_either x old new after told is l =
      let m = subst (λ (v : Server). LeavesEither s (kept_on old) (kept_on new) (crash (core_of old.journal)) (crash v)) is
      (step_leaves s (kept_on old) (kept_on new) (made_of old.journal) (crash (core_of old.journal)) (noted_of old.journal)
      (crash after) told l) in
      record { later = m.later; each = m.each; before = m.before }

  pub went_step : ((disk : D) (c : List ℕ) → s.left_since disk (s.moment disk) c → s.may_leave disk c)
      → (x : ServerStep) (old new : StoredServer D) (told : List Note)
      → core_of new.journal ≡ after_step (core_of old.journal) x → Answered s old.journal new.journal told
      → is_over_in new.journal ≡ false
      → s.faults (kept_on new) ≡ s.faults (kept_on old) → JournalWent (x ∷ []) old new
  went_step only_now x old new told is answered on same = record {
    state = is;
    carries = record {
      few = omega arith;
      crash = λ k. of_either x old new (core_of new.journal) told is (answered.any_moment k);
      since = λ k.
          let leaves = of_either x old new (core_of new.journal) told is (answered.any_moment k) in (
            leaves.each,
            s.moment (kept_on new),
            leaves.later,
            omega arith,
            λ c left. subst (λ (v : Server). StandsFor v c) is (stays s only_now new c (answered.kept k) left),
          );
    };
    keeps_on = answered.kept;
    goes_on = on;
    same = same;
  }

  broke_step : (x : ServerStep) (failed : Type 0) (old new : StoredServer D) (after : Server) (told : List Note)
      → after ≡ after_step (core_of old.journal) x
      → (IsKept s old.journal → LeavesStep s (kept_on old) (kept_on new) (made_of old.journal) (crash (core_of old.journal))
      (noted_of old.journal) (crash after) told)
      → (failed → Rose (s.faults (kept_on old)) (s.faults (kept_on new))) → JournalBroke [] (x ∷ []) failed old new
  broke_step x failed old new after told is leaves rose = record {
    carries = record {
      few = omega arith;
      crash = λ k. of_either x old new after told is (leaves k);
      since = λ k. (of_either x old new after told is (leaves k)).each;
    };
    rose = rose;
  }

  -- a call that was cut off in a step
  pub broke_cut : (x : ServerStep) (failed : Type 0) (old new : StoredServer D) (after : List ℕ → RulesStep)
      (cut : CutOff s old.journal new.journal after) → (after cut.chosen).state ≡ after_step (core_of old.journal) x
      → (failed → Rose (s.faults (kept_on old)) (s.faults (kept_on new))) → JournalBroke [] (x ∷ []) failed old new
  broke_cut x failed old new after cut is rose =
      broke_step x failed old new (after cut.chosen).state (after cut.chosen).notes is cut.any_moment rose

  -- ---- objects

  -- a crash leaves the server as it is, whether it is told of the object or not
  told_leaves : (m : MadeObject) (old new : StoredServer D) → LeavesMade s old.journal new.journal m
      → LeavesOnly (λ (y : StoredServer D). s.moment (kept_on y)) (λ (y : StoredServer D). s.left_since (kept_on y)) old new
      (StandsForSome StandsFor (core_of old.journal) [])
  told_leaves m old new l = record {
    later = l.later;
    each = λ c left. either c (l.each c left);
    before = λ t c le left. ⊎_elim inl (λ e. inr (either c e)) (l.before t c le left);
  }
    where
      either : (c : List ℕ)
          → IsJournalWith (crash (core_of old.journal)) (made_of old.journal) (noted_of old.journal) c
          ⊎ IsJournalWith (crash (core_of old.journal)) (made_of old.journal ++ m ∷ []) (noted_of old.journal) c
          → StandsFor (core_of old.journal) c
      either c (inl is) = journal_of _ _ _ c is
      either c (inr is) = journal_of _ _ _ c is

  pub went_told : (m : MadeObject) (old new : StoredServer D) → core_of new.journal ≡ core_of old.journal
      → (IsKept s old.journal → LeavesMade s old.journal new.journal m) → (IsKept s old.journal → IsKept s new.journal)
      → is_over_in new.journal ≡ false → s.faults (kept_on new) ≡ s.faults (kept_on old) → JournalWent [] old new
  went_told m old new is leaves keeps on same = record {
    state = is;
    carries = record {
      few = omega arith;
      crash = λ k. told_leaves m old new (leaves k);
      since = λ k. (told_leaves m old new (leaves k)).each;
    };
    keeps_on = keeps;
    goes_on = on;
    same = same;
  }

  -- and then it knows that object besides
  pub learns : (m : MadeObject) (old new : List MadeObject) → new ≡ old ++ m ∷ []
      → LearnsOne (is_among old) (is_among new) m.drive m.object
  learns m old new is d o =
      ap (λ (made : List MadeObject). is_among made d o) is
      ∙ list_any-append (λ (x : MadeObject). (x.drive == d) && (x.object == o)) old (m ∷ [])
      ∙ ap (λ (b : Bool). is_among old d o || b) (or-false ((m.drive == d) && (m.object == o)))

  pub broke_telling : (m : MadeObject) (failed : Type 0) (old new : StoredServer D)
      → (IsKept s old.journal → LeavesMade s old.journal new.journal m)
      → (failed → Rose (s.faults (kept_on old)) (s.faults (kept_on new))) → JournalBroke [] [] failed old new
  broke_telling m failed old new leaves rose = record {
    carries = record {
      few = omega arith;
      crash = λ k. told_leaves m old new (leaves k);
      since = λ k. (told_leaves m old new (leaves k)).each;
    };
    rose = rose;
  }

  -- ---- files

  -- a file that was made
  pub went_making : ((disk : D) (c : List ℕ) → s.left_since disk (s.moment disk) c → s.may_leave disk c)
      → (number : ℕ) (raw : RawMap) (tag : ℕ)
      (chosen : List ℕ) (old new : StoredServer D) (r : RulesStep)
      → create_file (core_of old.journal) number raw tag false chosen ≡ Ok r
      → core_of new.journal ≡ r.state → (told : List Note) → Answered s old.journal new.journal told
      → is_over_in new.journal ≡ false
      → s.faults (kept_on new) ≡ s.faults (kept_on old) → JournalWent (steps.Makes number raw tag chosen ∷ []) old new
  went_making only_now number raw tag chosen old new r makes is told answered on same =
      went_step only_now (steps.Makes number raw tag chosen) old new told
      (is ∙ sym (ap (λ (x : Result RulesStep Refusal). (unless_made (core_of old.journal) x).state) makes)) answered on same

  -- nothing changed
  unchanged : ((disk : D) (c : List ℕ) → s.left_since disk (s.moment disk) c → s.may_leave disk c) → (old new : StoredServer D)
      → Stays old.journal new.journal → JournalWent [] old new
  unchanged only_now old new same =
      let disk : kept_on new ≡ kept_on old = ap (λ (l : GateLog D). disk_of l) same.log in
      let held : (c : List ℕ) → IsKept s old.journal → s.left_since (kept_on new) (s.moment (kept_on old)) c
      → StandsFor (core_of old.journal) c =
      λ c k left. stays s only_now old c k (subst (λ (d : D). s.left_since d (s.moment (kept_on old)) c) disk left) in record {
        state = same.server;
        carries = record {
          few = omega arith;
          crash = λ k. record {
            later = omega (arith, ap (λ (d : D). s.moment d) disk);
            each = λ c left. held c k left;
            before = λ t c le left. inl (subst (λ (d : D). s.left_since d t c) disk left);
          };
          since = λ k c left. held c k left;
        };
        keeps_on = λ k. subst (λ (v : Server). KeepsServer s (crash v) (made_of new.journal) (noted_of new.journal) new.journal.log)
            (sym same.server)
            (subst (λ (ms : List MadeObject). KeepsServer s (crash (core_of old.journal)) ms (noted_of new.journal)
            new.journal.log) (sym same.made)
            (subst (λ (ns : List Note). KeepsServer s (crash (core_of old.journal)) (made_of old.journal) ns new.journal.log)
            (sym same.noted)
            (subst (λ (l : GateLog D). KeepsServer s (crash (core_of old.journal)) (made_of old.journal) (noted_of old.journal) l)
            (sym same.log) k)));
        goes_on = same.goes_on;
        same = ap (λ (d : D). s.faults d) disk;
      }

  -- one that wasn't
  pub not_making : ((disk : D) (c : List ℕ) → s.left_since disk (s.moment disk) c → s.may_leave disk c)
      → (number : ℕ) (raw : RawMap) (tag : ℕ)
      (old new : StoredServer D) (e : JournalFileErr) → MakesNot s old.journal new.journal number raw tag false e
      → JournalMakesNot number raw tag old new (make_err_of e)
  not_making only_now number raw tag old new e m = go e m
    where
      refused : (x : JournalFileErr) → IsRefused old.journal new.journal number raw false x
          → JournalMakesNot number raw tag old new (make_err_of x)
      refused x r =
          subst (λ (y : MakeErr). JournalMakesNot number raw tag old new y)
          (sym (ap (λ (y : JournalFileErr). make_err_of y) r.told ∙ told_refusal r.reason))
          (r.refused, unchanged only_now old new r.stays)

      cut : (x : JournalErr) → MakesNot s old.journal new.journal number raw tag false (file.Journal x)
          → (chosen : List ℕ)
          × JournalBroke [] (steps.Makes number raw tag chosen ∷ []) (make_err_of (file.Journal x) ≡ made.DiskFault) old new
      cut x c = (
        c.3.chosen,
        broke_cut (steps.Makes number raw tag c.3.chosen) (make_err_of (file.Journal x) ≡ made.DiskFault) old new _ c.3 refl
            (λ is. c.2.failed (make_fault x is)),
      )

      go : (x : JournalFileErr) → MakesNot s old.journal new.journal number raw tag false x
          → JournalMakesNot number raw tag old new (make_err_of x)
      go file.FileExists r = refused file.FileExists r
      go (file.BadMap why) r = refused (file.BadMap why) r
      go (file.TooFewDrives online) r = refused (file.TooFewDrives online) r
      go (file.NoSpread online) r = refused (file.NoSpread online) r
      go (file.Journal (journal.NotEmpty size)) c = absurd c.0
      go (file.Journal (journal.NotAJournal at)) c = absurd c.0
      go (file.Journal journal.DiskFault) c = cut journal.DiskFault c
      go (file.Journal journal.Memory) c = cut journal.Memory c
