-- Whatever comes to a client: what its call reports if its write breaks off is so, by the grant that it held before.
-- Towards `ReturnsAreRight` (`specs/KeptFollows.antt`).
use Rattle.std.proofs.Common.{◌≡◌, ◌==◌, ℕ, Bool, true, false, List, Option, Some, None, Result, Ok, Err, refl, sym, subst, ◌∙◌, if◌then◌else◌}
use Rattle.layout_types.specs.declared.ioerrs.IoErr.{IoErr}
use Rattle.layout_ops.specs.declared.messages.Answer.{Answer}
use Rattle.layout_ops.specs.declared.statuses.TheConstants.{NFS4_OK, NFS4ERR_BADLAYOUT}
use Rattle.client_rules.specs.Answers.{not_granted, refused_with, on_commit, committed, not_committed}
use Rattle.client_rules.specs.Calls.{file_of, is_write}
use Rattle.client_rules.specs.Going.{quiet, moved, phased, by_turn, with_held, begins, begun, starts_with, starts_under, starts_at, starts_call, progressed, asks_under, returns, requests}
use Rattle.client_rules.specs.Grants.{covers, held_of}
use Rattle.client_rules.specs.History.{Input, step}
use Rattle.client_rules.specs.Layouts.{taken}
use Rattle.client_rules.specs.Messages.{finished, on_call, on_phase, on_need, answered_get, commit_under, obeys, no_match}
use Rattle.client_rules.specs.Replies.{replied, timed_out}
use Rattle.client_rules.specs.Results.{status_of}
use Rattle.client_rules.specs.Steps.{all_due}
use Rattle.client_rules.specs.Turns.{turned}
use Rattle.client_rules.specs.Writes.{is_too_short}
use Rattle.client_rules.proofs.HeldGrants.{held_file, put_at}
use Rattle.client_rules.proofs.ReadSteps.{Refuses, refused_with_refuses}
use Rattle.world_history.specs.ClientNames.{Client, Call, CallOp, Held, Due, TimedOut, Request, Need, First, Get, Commit, Report, Close, Phase, Starts, Needs, Waits, Reads, Probes, Gathers, Scatters, Turn, Goes, Ends, Forgets, Moved, Done, Why, Status}
use Rattle.history_law.specs.Turns.{with_start, TurnCases}
use Rattle.history_law.proofs.Turns.{each_turn, each_progress}
use Rattle.exchange_law.proofs.PlaceMoving.{covered}
use Rattle.relation_law.specs.Returns.{BreaksOff, NeedReports, PhaseReports, HasEnough, WritesEnough, ReportsWell, CallReports}
use Rattle.relation_law.proofs.MessagesClients.{IsUsable, AreUsable}
use Rattle.relation_law.proofs.MessagesGathers.{begin_writable}
use Rattle.relation_law.proofs.MessagesRun.{IsFine}
use Rattle.relation_law.proofs.MessagesAlways.{Any, on_call_fine, replied_done, timed_done}
use Rattle.relation_law.proofs.RequestsDealt.{file_of_moved, replied_file, timed_out_file, begins_file}
use Rattle.relation_law.proofs.ReturnsMoves.{Suits, TurnSuits, MovedSuits, turn_of, phase_of, moves, ends, forgets, accounted_suits, replied_suits, timed_suits, begins_suit}

module _ (N : CallOp → List IoErr → Type 0) where
  abbrev Good : Done → Type 0
  Good d = CallReports N d.client.held d.client.call

  none_good : (d : Done) → d.client.call ≡ None → Good d
  none_good d none = subst (CallReports N d.client.held) (sym none) tt

  phased_good : (d : Done) (op : CallOp) (p : Phase) → PhaseReports (N op) p → ((h : Held) → WritesEnough h op p)
      → Good (phased d op p)
  phased_good d op p r w = record { reports = r; enough = λ h e. w h }

  -- ---- dealings with the drives

  module _ (d : Done) (op : CallOp) (h : Held) (held : held_of d.client.held (file_of op) ≡ Some h) (m : Moved)
      (file : m.held.file ≡ h.file) where
    here : m.held.file ≡ file_of op
    here = file ∙ held_file d.client.held (file_of op) h held

    by_turn_good : (t : Turn) → TurnSuits (N op) m.held op t
        → Good (by_turn (record (with_held d m.held) { commands = m.sent }) op t)
    by_turn_good (Goes p) w =
        let both : Suits (N op) m.held op p = phase_of (N op) op m.held p w in
        record {
          reports = both.0;
          enough = λ k e.
              let same : m.held ≡ k = cc (sym (put_at d.client.held m.held (file_of op) here) ∙ e) in
              subst (λ (x : Held). WritesEnough x op p) same both.1;
        }
    by_turn_good (Ends o) w = tt
    by_turn_good (Forgets o) w = tt

    moved_good : MovedSuits (N op) op m → Good (moved d op m)
    moved_good w = by_turn_good m.turn (turn_of (N op) op m w)

  -- ---- to the end of a turn

  has_enough : (h : Held) (op : CallOp) → IsUsable h → covers h op ≡ true → is_write op ≡ true → HasEnough h op
  unfolding is_too_short
  has_enough h op u cover is = rw (begin_writable h op u is (covered h op cover)) refl

  module _ (d : Done) (usable : AreUsable d.client.held) (k : Good d) where
    with_need : (op : CallOp) (n : Need) → NeedReports (N op) n → (o : Option Request) → Good (starts_with d op n o)
    with_need op n r None = phased_good d op (Needs n) r (λ h. tt)
    with_need op n r (Some q) = k

    covering : (op : CallOp) (h : Held) → held_of d.client.held (file_of op) ≡ Some h → (b : Bool) → covers h op ≡ b
        → Good (if b then moved d op (begins h op) else starts_with d op First d.client.outstanding)
    covering op h held true cover =
        moved_good d op h held (begins h op) (file_of_moved h (begins h op) (begins_file h op))
        (begins_suit (N op) h op (has_enough h op (usable (file_of op) h held) cover))
    covering op h held false cover = with_need op First tt d.client.outstanding

    under : (op : CallOp) (o : Option Held) → held_of d.client.held (file_of op) ≡ o → Good (starts_under d op o)
    under op None held = with_need op (Get 0) tt d.client.outstanding
    under op (Some h) held = covering op h held (covers h op) refl

    at_phase : (op : CallOp) (p : Phase) → Good (starts_at d op p)
    at_phase op Starts = under op (held_of d.client.held (file_of op)) refl
    at_phase op (Needs n) = k
    at_phase op (Waits n) = k
    at_phase op (Reads io) = k
    at_phase op (Probes io) = k
    at_phase op (Gathers io) = k
    at_phase op (Scatters io queue) = k

    at_call : (o : Option Call) → Good (starts_call d o)
    at_call None = k
    at_call (Some call) = at_phase call.op call.phase

    begun_good : Good (begun d)
    unfolding begun
    begun_good = at_call d.client.call

  module _ (d : Done) (k : Good d) where
    asks : (op : CallOp) (n : Need) (o : Option Held) → d.client.call ≡ Some (record { op = op; phase = Needs n })
        → Good (asks_under d op n o)
    unfolding requests
    asks op n o is = by o
      where
        needs : NeedReports (N op) n
        needs = (subst (CallReports N d.client.held) is k).reports

        by : (o : Option Held) → Good (asks_under d op n o)
        by None = record { reports = needs; enough = λ h e. tt }
        by (Some h) = record { reports = needs; enough = λ h e. tt }

    gives_back : (u : Option Due) → d.client.call ≡ None → Good (returns d u)
    unfolding requests
    gives_back None none = none_good (returns d None) none
    gives_back (Some u) none = none_good (returns d (Some u)) none

    progressed_good : Good (progressed d)
    progressed_good = each_progress d Good (record {
      waits = λ r out. k;
      works = λ call is out. k;
      spent = λ none out z. k;
      asks = λ op n h is out held. asks op n h is;
      gives_back = λ u none out left is. gives_back u none;
    })

  finished_good : (d : Done) → AreUsable d.client.held → Good d
      → CallReports N (finished d).client.held (finished d).client.call
  unfolding finished
  finished_good d usable k = progressed_good (begun d) (begun_good d usable k)

  -- ---- answers

  module _ (x : Client) (a : Answer) (k : CallReports N x.held x.call) where
    abbrev freed : Done
    freed = quiet (record x { outstanding = None })

    given : (op : CallOp) (r : Result Held Why) → Good (answered_get freed op r)
    given op (Err w) = tt
    given op (Ok h) = record { reports = tt; enough = λ z e. tt }

    again : (op : CallOp) (t : Turn) → Refuses t → Good (by_turn freed op t)
    again op (Goes (Needs (Get tries))) r = record { reports = tt; enough = λ z e. tt }
    again op (Ends o) r = tt
    again op t r = absurd r

    got : (op : CallOp) (tries : ℕ) (b : Bool)
        → Good (if b then answered_get freed op (taken a op) else by_turn freed op (not_granted a tries))
    unfolding not_granted
    got op tries true = given op (taken a op)
    got op tries false =
        again op (refused_with (status_of a.results) a.detail tries) (refused_with_refuses (status_of a.results) a.detail tries)

    not_ok : (op : CallOp) (h : Held) → MovedSuits (N op) op (turned h (not_committed (status_of a.results) a.detail))
    unfolding not_committed
    not_ok op h = by (status_of a.results == NFS4ERR_BADLAYOUT)
      where
        by : (b : Bool) → MovedSuits (N op) op (turned h (if b then Forgets (Status (status_of a.results) a.detail)
            else Ends (Status (status_of a.results) a.detail)))
        by true = moves (N op) op _ _ _ (forgets (N op) op _ _)
        by false = moves (N op) op _ _ _ (ends (N op) op _ _)

    commit : (op : CallOp) (timed : List TimedOut) → x.call ≡ Some (record { op = op; phase = Waits (Commit timed) })
        → (o : Option Held) → held_of x.held (file_of op) ≡ o → Good (commit_under freed op a (Commit timed) o)
    unfolding on_commit
    commit op timed is None held = k
    commit op timed is (Some h) held = by (status_of a.results == NFS4_OK)
      where
        by : (b : Bool) → Good (moved freed op (if b then committed h op a timed
            else turned h (not_committed (status_of a.results) a.detail)))
        by true =
            moved_good freed op h held (committed h op a timed) refl
            (moves (N op) op _ _ _ (accounted_suits (N op) op _ timed))
        by false = moved_good freed op h held (turned h (not_committed (status_of a.results) a.detail)) refl (not_ok op h)

    by_need : (op : CallOp) (n : Need) → x.call ≡ Some (record { op = op; phase = Waits n }) → Good (on_need freed op n a)
    by_need op First is = record { reports = tt; enough = λ z e. tt }
    by_need op (Get tries) is = got op tries (status_of a.results == NFS4_OK)
    by_need op (Commit timed) is = commit op timed is (held_of x.held (file_of op)) refl
    by_need op (Report timed) is = tt
    by_need op (Close u report) is = tt

    by_phase : (op : CallOp) (p : Phase) → x.call ≡ Some (record { op = op; phase = p }) → Good (on_phase freed op p a)
    by_phase op (Waits n) is = by_need op n is
    by_phase op Starts is = k
    by_phase op (Needs n) is = k
    by_phase op (Reads io) is = k
    by_phase op (Probes io) is = k
    by_phase op (Gathers io) is = k
    by_phase op (Scatters io queue) is = k

    answered_good : (o : Option Call) → x.call ≡ o → Good (on_call freed o a)
    answered_good None is = k
    answered_good (Some call) is = by_phase call.op call.phase is

  -- ---- each step

  module _ (x : Client) (fine : IsFine x) (k : CallReports N x.held x.call)
      (broken : (op : CallOp) (h : Held) → held_of x.held (file_of op) ≡ Some h → (report : List IoErr)
      → BreaksOff h op report → N op report) where
    its : (call : Call) (h : Held) → x.call ≡ Some call → held_of x.held (file_of call.op) ≡ Some h
        → Suits (N call.op) h call.op call.phase
    its call h is held = let r : ReportsWell N x.held call = subst (CallReports N x.held) is k in (r.reports, r.enough h held)

    cases : (i : Input) → TurnCases x i (λ t. CallReports N t.client.held t.client.call)
    cases i = record {
      rests = k;
      nothing = λ op is empty. k;
      called = λ op is none can.
          finished_good (quiet (with_start x op)) fine.usable (record { reports = tt; enough = λ h e. tt });
      answered = λ a q. finished_good (on_call (quiet (record x { outstanding = None })) x.call a)
          (on_call_fine (quiet (record x { outstanding = None })) x.call a refl
          (record { usable = fine.usable; call = fine.call; outcome = tt })).usable
          (answered_good x a k x.call refl);
      replied = λ drive q call h a r.
          let m : Moved = replied h call.op call.phase a q in
          finished_good (moved (quiet x) call.op m)
          (replied_done x i fine Any drive q call h a r (λ bytes y. tt)).usable
          (moved_good (quiet x) call.op h r.held m (file_of_moved h m (replied_file h call.op call.phase a q))
          (replied_suits (N call.op) h call.op (broken call.op h r.held) call.phase a q (its call h r.call_is r.held)));
      unheld = finished_good (quiet x) fine.usable k;
      recalled = λ q is. finished_good (obeys x q) fine.usable k;
      unmatched = λ q is. finished_good (no_match x q) fine.usable k;
      timed = λ j call h a xs r.
          let m : Moved = timed_out h call.op call.phase j a xs in
          finished_good (moved (quiet x) call.op m)
          (timed_done x i fine Any j call h a xs r (λ bytes y. tt)).usable
          (moved_good (quiet x) call.op h r.held m (file_of_moved h m (timed_out_file h call.op call.phase j a xs))
          (timed_suits (N call.op) h call.op (broken call.op h r.held) call.phase j a xs (its call h r.call_is r.held)));
      leaves = λ is. finished_good (quiet (record x { due = all_due x.due x.held })) fine.usable k;
      resends = λ is. k;
    }

    pub step_reports : (i : Input) → CallReports N (step x i).client.held (step x i).client.call
    step_reports i = each_turn x i (λ t. CallReports N t.client.held t.client.call) (cases i)
