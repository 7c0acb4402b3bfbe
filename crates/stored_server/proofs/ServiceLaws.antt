-- What a server in a journal leaves on its disk, and how its serving ends.
use Rattle.std.proofs.Common.{◌≡◌, ◌∙◌, ◌⊎◌, ⊎_elim, inl, inr, ℕ, List, [], ◌++◌, Option, ap, append-nil, append_assoc, sym, subst}
use Rattle.std.specs.Prelude.{IsTrue, false}
use Rattle.osd_bytes.specs.Asking.{Ends}
use Rattle.osd_bytes.specs.Causes.{Rose}
use Rattle.osd_disk.specs.Crashes.{LeavesOnly, Only}
use Rattle.osd_disk.specs.declared.disk.Disk.{Ghosts as DiskGhosts}
use Rattle.cluster_text.specs.declared.cluster.Cluster.{Cluster}
use Rattle.drive_command.specs.declared.stored_stop.StoredStop.{StoredStop}
use Rattle.server_rules.specs.declared.server.Server.{Server}
use Rattle.server_rules.specs.Openings.{crash}
use Rattle.server_state.specs.declared.step.Step.{Step}
use Rattle.server_command.specs.declared.server_stop.ServerStop.{ServerStop}
use Rattle.server_command.specs.declared.server_stop.ServerStop.TheVariants.{DiskFault}
use Rattle.server_command.specs.Ends.{Serves}
use Rattle.server_command.specs.Kept.{StandsForSome}
use Rattle.server_command.specs.Steps.{ServerStep, after_steps}
use Rattle.server_journal.specs.Journals.{IsKept, core_of, made_of, noted_of}
use Rattle.server_journal.specs.Opening.{IsOfOpening}
use Rattle.server_journal.specs.Resting as resting
use Rattle.server_journal.proofs.JournalLaws.{on_and_on, weaker}
use Rattle.stored_server.specs.declared.stored_server.StoredServer.{StoredServer}
use Rattle.stored_server.specs.Differences.{is_of_another}
use Rattle.stored_server.specs.Opened.{BeginsWith, LeavesOpenable}
use Rattle.stored_server.specs.Preparing.{Prepares}
use Rattle.stored_server.specs.Service.{BreaksOff, IsOfRun, LeavesRun, ServesFrom, StaysSince, StopsBehind, once_told, stored_stop_of}
use Rattle.stored_server.specs.StoredServer.{StandsFor, is_among, kept_on}
use Rattle.stored_server.proofs.JournalLaws.{JournalCarries}

module _ {D : Type 0} (s : DiskGhosts D) where
  stays_since : (old new : StoredServer D) (done cut_off : List ServerStep) (left : D) → JournalCarries s done cut_off old new
      → IsKept s old.journal
      → left ≡ kept_on new → StaysSince s (core_of old.journal) done cut_off left
  stays_since old new done cut_off left x k same =
      subst (λ (d : D). StaysSince s (core_of old.journal) done cut_off d) (sym same)
      (record { began = s.moment (kept_on old); is_past = (x.crash k).later; stands = x.since k })

  -- a crash at any moment of the run
  leaves_run : (disk left : D) (old new : StoredServer D) (steps : List ServerStep) → left ≡ kept_on new
      → LeavesOpenable s disk (kept_on old)
      → LeavesOnly (λ (x : StoredServer D). s.moment (kept_on x)) (λ (x : StoredServer D). s.left_since (kept_on x)) old new
      (StandsForSome StandsFor (core_of old.journal) steps)
      → LeavesRun s disk left (core_of old.journal) steps
  leaves_run disk left old new steps same (inl empty) leaves = inl empty
  leaves_run disk left old new steps same (inr opening) leaves =
      subst (λ (d : D). LeavesRun s disk d (core_of old.journal) steps) (sym same)
      (inr (on_and_on s disk (kept_on old) (kept_on new) (IsOfRun s disk (core_of old.journal) steps)
      (weaker s disk (kept_on old) (λ c. s.may_leave disk c ⊎ IsOfOpening (s.seen disk) c)
      (IsOfRun s disk (core_of old.journal) steps) opening
      (λ c left. ⊎_elim inl (λ here. inr (inl here)) left))
      (weaker s (kept_on old) (kept_on new) (StandsForSome StandsFor (core_of old.journal) steps)
      (IsOfRun s disk (core_of old.journal) steps)
      (record { later = leaves.later; each = leaves.each; before = leaves.before }) (λ c left. inr (inr left)))))

  module _ (connections : ℕ) (cluster : Cluster) (first before now : Ends) (taken_before taken : Option (List ℕ)) (disk left : D)
      (old new : StoredServer D) (step : Step) (begins : IsTrue (s.tells disk)
      → BeginsWith (s.seen disk) (core_of old.journal) (made_of old.journal) step)
      (own : is_of_another cluster.drives (core_of old.journal).drives ≡ false)
      (told_all : before ≡ once_told cluster (core_of old.journal) first)
      (kept : IsTrue (s.tells disk) → IsKept s old.journal) (opens : IsTrue (s.tells disk)
      → LeavesOpenable s disk (kept_on old)) (done : List ServerStep) (same : left ≡ kept_on new) where
    pub served_from : (made : Server) (prepared : List ServerStep) (between : Ends)
        → Prepares (is_among (made_of old.journal)) cluster (core_of old.journal) step [] before made prepared between
        → Serves connections made (core_of new.journal) prepared done between now taken_before taken
        → core_of new.journal ≡ after_steps (core_of old.journal) done
        → JournalCarries s done [] old new → (IsKept s old.journal → IsKept s new.journal)
        → s.faults (kept_on new) ≡ s.faults (kept_on old) → s.faults (kept_on old) ≡ s.faults disk
        → ServesFrom s connections cluster first now taken_before taken disk left
    served_from made prepared between prepares serves all x keeps still faults = record {
      begun = core_of old.journal;
      own = made_of old.journal;
      step = step;
      begins = begins;
      of_cluster = own;
      made = made;
      prepared = prepared;
      between = between;
      prepares = subst (λ (e : Ends). Prepares (is_among (made_of old.journal)) cluster (core_of old.journal) step [] e made
          prepared between) told_all prepares;
      last = core_of new.journal;
      done = done;
      serves = serves;
      all = all;
      any_moment = λ told. subst (λ (xs : List ServerStep). LeavesRun s disk left (core_of old.journal) xs) (append-nil done)
          (leaves_run disk left old new (done ++ []) same (opens told) (x.crash (kept told)));
      stays = λ told. stays_since old new done [] left x (kept told) same;
      stands = λ told. subst (λ (d : D). StandsFor (core_of new.journal) (s.seen d)) (sym same)
          (resting.journal_of (crash (core_of new.journal)) (made_of new.journal) (noted_of new.journal) (s.seen (kept_on new))
          (resting.stands s (crash (core_of new.journal)) (made_of new.journal) (noted_of new.journal) new.journal.log
          (keeps (kept told))));
      durable = λ told. subst (λ (d : D). Only (s.seen d) (s.may_leave d)) (sym same) (keeps (kept told)).rest.durable;
      same = ap (λ (d : D). s.faults d) same ∙ (still ∙ faults);
    }

    pub broke_off : (served unserved handled cut_off : List ServerStep) (failed_before failed : ℕ) (stop : StoredStop)
        (cause : ServerStop) → served ≡ done → unserved ≡ handled ++ cut_off → stop ≡ stored_stop_of cause
        → StopsBehind connections cluster (core_of old.journal)
        (made_of old.journal) step before now taken_before taken failed_before failed cause served unserved
        → JournalCarries s (done ++ handled) cut_off old new
        → (cause ≡ DiskFault → Rose (s.faults (kept_on old)) (s.faults (kept_on new)))
        → s.faults (kept_on old) ≡ s.faults disk
        → BreaksOff s connections cluster first now taken_before taken failed_before failed disk left stop
    broke_off served unserved handled cut_off failed_before failed stop cause first behind is why x rose faults =
        let all : (done ++ handled) ++ cut_off ≡ served ++ unserved =
        append_assoc done handled cut_off ∙ ap (λ (xs : List ServerStep). done ++ xs) (sym behind)
        ∙ ap (λ (xs : List ServerStep). xs ++ unserved) (sym first) in record {
          begun = core_of old.journal;
          own = made_of old.journal;
          step = step;
          begins = begins;
          of_cluster = own;
          cause = cause;
          is = is;
          served = served;
          unserved = unserved;
          why = subst (λ (e : Ends). StopsBehind connections cluster (core_of old.journal) (made_of old.journal) step e now
              taken_before taken failed_before failed cause served unserved) told_all why;
          rose =
              λ f. subst (λ (d : D). Rose (s.faults disk) (s.faults d)) (sym same)
              (subst (λ (n : ℕ). Rose n (s.faults (kept_on new))) faults (rose f));
          handled = handled;
          cut_off = cut_off;
          are = behind;
          few = x.few;
          any_moment = λ told. subst (λ (xs : List ServerStep). LeavesRun s disk left (core_of old.journal) xs) all
              (leaves_run disk left old new ((done ++ handled) ++ cut_off) same (opens told) (x.crash (kept told)));
          stays = λ told. subst (λ (xs : List ServerStep). StaysSince s (core_of old.journal) (xs ++ handled) cut_off left)
              (sym first) (stays_since old new (done ++ handled) cut_off left x (kept told) same);
        }
