-- What a stored drive leaves on its disk, and how its serving ends.
use Rattle.std.proofs.Common.{◌≡◌, ⊎_elim, ℕ, List, [], ◌++◌, Option, inl, inr, refl, ◌∙◌, sym, ap, subst, arith}
use Rattle.std.specs.Prelude.{IsTrue}
use Rattle.std.proofs.lemmas.List.{append-nil}
use Rattle.osd_bytes.specs.Causes.{Rose}
use Rattle.cluster_text.specs.declared.stop.CommandStop.TheVariants as cause
use Rattle.osd_disk.specs.Crashes.{LeavesOnly, Only}
use Rattle.osd_disk.specs.declared.disk.Disk.{Ghosts as DiskGhosts}
use Rattle.osd_drive.specs.State.{DriveState}
use Rattle.drive_store.specs.declared.store.StoredDrive.{StoredDrive}
use Rattle.drive_store.specs.Resting as resting
use Rattle.drive_store.specs.Stores.{IsStoreOf, core_of, disk_in}
use Rattle.drive_command.specs.declared.stored_stop.StoredStop.{StoredStop}
use Rattle.drive_command.specs.declared.stored_stop.StoredStop.TheVariants.{Command, DiskFault, BadStore}
use Rattle.drive_command.specs.Records.{Handled, after_all}
use Rattle.drive_command.specs.Kept.{StandsForSome}
use Rattle.drive_command.specs.Opened.{BeginsWith, LeavesOpenable, StopsOpening}
use Rattle.drive_command.proofs.StoredLaws.{Carried, Kept}
use Rattle.drive_loop.specs.Service.{Ends, HasNotBegun, Serves, StopsKept}
use Rattle.drive_loop.specs.Serving.{AreHandled, records_in}
use Rattle.drive_loop.specs.StoredService.{LeavesRun, ServesFrom, StaysSince, StopsFrom, WhyFrom}
use Rattle.port_loop.specs.Steps.{Step}

module _ {D : Type 0} (s : DiskGhosts D) where
  stays_since : (old new : StoredDrive D) (handled cut_off : List Handled) (left : D)
      → Carried s handled cut_off old new → Kept s old → left ≡ disk_in new
      → StaysSince s (core_of old) handled cut_off left
  stays_since old new handled cut_off left x k same =
      subst (λ (d : D). StaysSince s (core_of old) handled cut_off d) (sym same)
      (record { began = s.moment (disk_in old); is_past = (x.crash k).later; stands = x.since k })

  -- a crash at any moment of the run
  leaves_run : (disk left : D) (old new : StoredDrive D) (handled : List Handled) → left ≡ disk_in new
      → LeavesOpenable s disk (disk_in old)
      → LeavesOnly (λ (x : StoredDrive D). s.moment (disk_in x)) (λ (x : StoredDrive D). s.left_since (disk_in x)) old new
      (StandsForSome IsStoreOf (core_of old) handled)
      → LeavesRun s disk left (core_of old) handled
  leaves_run disk left old new handled same (inl empty) leaves = inl empty
  leaves_run disk left old new handled same (inr opening) leaves =
      subst (λ (d : D). LeavesRun s disk d (core_of old) handled) (sym same) (inr (record {
        later = omega (arith, opening.later, leaves.later);
        each = λ c left. ⊎_elim (λ before. inl (opening.each c before)) inr (leaves.before (s.moment disk) c opening.later left);
        before =
            λ t c le left. ⊎_elim (λ earlier. ⊎_elim inl (λ here. inr (inl here)) (opening.before t c le earlier))
            (λ here. inr (inr here))
            (leaves.before t c (omega (arith, le, opening.later)) left);
      }))

  module _ (first : DriveState) (connections : ℕ) (before now : Ends) (taken_before taken : Option (List ℕ)) (disk left : D) where
    pub served-from : (old new : StoredDrive D) (steps : List Step)
        → (IsTrue (s.tells disk) → BeginsWith first (s.seen disk) (core_of old))
        → (IsTrue (s.tells disk) → Kept s old)
        → Serves connections (core_of old) (core_of new) before now taken_before taken steps
        → Carried s (records_in steps) [] old new → (Kept s old → Kept s new) → left ≡ disk_in new
        → (IsTrue (s.tells disk) → LeavesOpenable s disk (disk_in old))
        → s.faults (disk_in new) ≡ s.faults (disk_in old) → s.faults (disk_in old) ≡ s.faults disk
        → ServesFrom s connections before now taken_before taken disk left first
    served-from old new steps begins kept serves x keeps same opens still faults = record {
      drive = core_of old;
      begins = begins;
      last = core_of new;
      steps = steps;
      serves = serves;
      any_moment = λ told. subst (λ (hs : List Handled). LeavesRun s disk left (core_of old) hs) (append-nil (records_in steps))
          (leaves_run disk left old new (records_in steps ++ []) same (opens told) (x.crash (kept told)));
      stays = λ told. stays_since old new (records_in steps) [] left x (kept told) same;
      stands = λ told. subst (λ (d : D). IsStoreOf (core_of new) (s.seen d)) (sym same)
          (resting.stands s.tells s.seen s.may_leave (core_of new) new.log (keeps (kept told)));
      durable = λ told. subst (λ (d : D). Only (s.seen d) (s.may_leave d)) (sym same) (keeps (kept told)).rest.durable;
      same = ap (λ (d : D). s.faults d) same ∙ (still ∙ faults);
    }

    why-stopped : (drive last : DriveState) (failed_before failed faults_before faults : ℕ) (steps : List Step)
        (stop : StoredStop)
        → StopsKept connections drive last before now taken_before taken failed_before failed faults_before faults steps
        stop
        → faults_before ≡ s.faults disk → s.faults left ≡ faults
        → WhyFrom s first connections drive last before now taken_before taken failed_before failed disk left steps
        stop
    why-stopped drive last failed_before failed faults_before faults steps (Command stop) stops old new = stops
    why-stopped drive last failed_before failed faults_before faults steps DiskFault stops old new =
        (stops.0, subst (λ (n : ℕ). Rose n (s.faults left)) old (subst (λ (n : ℕ). Rose faults_before n) (sym new) stops.1))
    why-stopped drive last failed_before failed faults_before faults steps (BadStore at) stops old new = absurd stops

    pub stopped-from : (old new : StoredDrive D) (steps : List Step) (handled cut_off : List Handled) (failed_before failed : ℕ)
        (stop : StoredStop)
        → (IsTrue (s.tells disk) → BeginsWith first (s.seen disk) (core_of old)) → (IsTrue (s.tells disk) → Kept s old)
        → s.faults (disk_in old) ≡ s.faults disk → AreHandled steps handled cut_off
        → Carried s handled cut_off old new
        → StopsKept connections (core_of old) (core_of new) before now taken_before taken failed_before failed
        (s.faults (disk_in old)) (s.faults (disk_in new)) steps stop
        → left ≡ disk_in new → (IsTrue (s.tells disk) → LeavesOpenable s disk (disk_in old))
        → StopsFrom s connections before now taken_before taken failed_before failed disk left stop first
    stopped-from old new steps handled cut_off failed_before failed stop begins kept faults records x stops same opens = record {
      drive = core_of old;
      last = core_of new;
      steps = steps;
      why = why-stopped (core_of old) (core_of new) failed_before failed (s.faults (disk_in old)) (s.faults (disk_in new)) steps
          stop stops faults (ap (λ (d : D). s.faults d) same);
      stays = inr (λ told. record {
        begins = begins told;
        handled = handled;
        cut_off = cut_off;
        records = records;
        few = x.few;
        state = x.state ∙ ap (λ (hs : List Handled). after_all (core_of old) hs) (sym records.are);
        any_moment = subst (λ (hs : List Handled). LeavesRun s disk left (core_of old) hs) (sym records.are)
            (leaves_run disk left old new (handled ++ cut_off) same (opens told) (x.crash (kept told)));
        stays = stays_since old new handled cut_off left x (kept told) same;
      });
    }

  -- no store was made or opened: nothing was told
  pub unopened : (first : DriveState) (connections : ℕ) (ends : Ends) (taken : Option (List ℕ)) (failed : ℕ) (disk left : D)
      (stop : StoredStop)
      → StopsOpening s first disk left stop → (IsTrue (s.tells disk) → LeavesOpenable s disk left)
      → StopsFrom s connections ends ends taken taken failed failed disk left stop first
  unopened first connections ends taken failed disk left stop stops opens = record {
    drive = first;
    last = first;
    steps = [];
    why = why stop stops;
    stays = inl (not_begun, opens);
  }
    where
      not_begun : HasNotBegun first first ends ends taken taken []
      not_begun = (refl, refl, refl, refl)

      why : (stop : StoredStop) → StopsOpening s first disk left stop
          → WhyFrom s first connections first first ends ends taken taken failed failed disk left [] stop
      why (Command (cause.BadCluster kind)) stops = absurd stops
      why (Command cause.ReadFault) stops = absurd stops
      why (Command cause.WriteFault) stops = absurd stops
      why (Command cause.Memory) stops = inl not_begun
      why (Command cause.Full) stops = absurd stops
      why (Command cause.LinkFault) stops = absurd stops
      why DiskFault stops = (inl not_begun, stops)
      why (BadStore at) stops = (not_begun, stops)
