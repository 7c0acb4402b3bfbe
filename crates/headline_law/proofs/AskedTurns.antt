-- Whatever comes to a client: what its call awaits, and what it has queued, is asked of components of the positions.
-- Towards `EachAskIsPlaced` (`headline_law/specs/Reads.antt`).
use Rattle.std.proofs.Common.{◌≡◌, ◌==◌, ℕ, Bool, true, false, List, [], Option, Some, None, Result, Ok, Err, refl, sym, ap, subst, ◌∙◌, if◌then◌else◌}
use Rattle.data_map.specs.declared.check.RawMap.{RawMap}
use Rattle.layout_ops.specs.declared.messages.Answer.{Answer}
use Rattle.layout_ops.specs.declared.statuses.TheConstants.{NFS4_OK, NFS4ERR_BADLAYOUT}
use Rattle.client_rules.specs.Answers.{not_granted, refused_with, on_commit, committed, not_committed}
use Rattle.client_rules.specs.Calls.{file_of}
use Rattle.client_rules.specs.Going.{quiet, moved, by_turn, with_held, begins, asks_under, returns, requests}
use Rattle.client_rules.specs.Grants.{held_of}
use Rattle.client_rules.specs.History.{Input, step}
use Rattle.client_rules.specs.Io.{awaited_in}
use Rattle.client_rules.specs.Layouts.{taken}
use Rattle.client_rules.specs.Messages.{finished, on_call, on_phase, on_need, answered_get, commit_under, obeys, no_match}
use Rattle.client_rules.specs.Replies.{replied, timed_out}
use Rattle.client_rules.specs.Results.{status_of}
use Rattle.client_rules.specs.Steps.{all_due}
use Rattle.client_rules.specs.Turns.{turned}
use Rattle.client_rules.proofs.HeldGrants.{held_file, put_at}
use Rattle.client_rules.proofs.ReadSteps.{Refuses, refused_with_refuses}
use Rattle.world_history.specs.ClientNames.{Client, Call, CallOp, Held, Due, TimedOut, Need, First, Get, Commit, Report, Close, Phase, Starts, Needs, Waits, Reads, Probes, Gathers, Scatters, Turn, Goes, Ends, Forgets, Moved, Done, Why, Status}
use Rattle.history_law.specs.Turns.{with_start, TurnCases, FinishCases}
use Rattle.history_law.proofs.Turns.{each_turn, each_finish}
use Rattle.exchange_law.proofs.ClientMoves.{IsKeptByClients}
use Rattle.headline_law.proofs.AskedMoves.{queued_in, PhaseAsks, TurnAsks, MovedAsks, free_asks, quiet_asks, accounted_asks, replied_asks, timed_asks, begins_asks}

-- what the call awaits and has queued is so by the map of the grant that the client holds on its file
abbrev pub CallAsks : List Held → Option Call → Type 0
CallAsks hs None = Unit {0}
CallAsks hs (Some call) = (h : Held) → held_of hs (file_of call.op) ≡ Some h → PhaseAsks h.map call.phase

abbrev pub ClientAsks : Client → Type 0
ClientAsks x = CallAsks x.held x.call

abbrev DoneAsks : Done → Type 0
DoneAsks d = ClientAsks d.client

-- a call that needs nothing of the drives
free_call : (hs : List Held) (op : CallOp) (p : Phase) → awaited_in p ≡ [] → queued_in p ≡ [] →
    CallAsks hs (Some (record { op = op; phase = p }))
free_call hs op p none empty = λ h e. free_asks h.map p none empty

-- ---- dealings with the drives

module _ (d : Done) (op : CallOp) (h : Held) (held : held_of d.client.held (file_of op) ≡ Some h) (m : Moved)
    (x : MovedAsks h m) where
  here : m.held.file ≡ file_of op
  here = x.file ∙ held_file d.client.held (file_of op) h held

  by_turn_asks : (t : Turn) → TurnAsks h.map t →
      DoneAsks (by_turn (record (with_held d m.held) { commands = m.sent }) op t)
  by_turn_asks (Goes p) y = λ k e.
      let same : m.held ≡ k = cc (sym (put_at d.client.held m.held (file_of op) here) ∙ e) in
      subst (λ (n : RawMap). PhaseAsks n p) (sym x.map ∙ ap (λ (z : Held). z.map) same) y
  by_turn_asks (Ends u) y = tt
  by_turn_asks (Forgets u) y = tt

  moved_asks : DoneAsks (moved d op m)
  moved_asks = by_turn_asks m.turn x.turn

-- ---- to the end of a turn

under_asks : (d : Done) (op : CallOp) (n : Need) (h : Option Held) → DoneAsks (asks_under d op n h)
unfolding requests
under_asks d op n None = free_call _ op (Waits n) refl refl
under_asks d op n (Some h) = free_call _ op (Waits n) refl refl

none_asks : (d : Done) → d.client.call ≡ None → DoneAsks d
none_asks d none = subst (CallAsks d.client.held) (sym none) tt

gives_asks : (d : Done) (u : Option Due) → d.client.call ≡ None → DoneAsks (returns d u)
unfolding requests
gives_asks d None none = none_asks (returns d None) none
gives_asks d (Some u) none = none_asks (returns d (Some u)) none

finishes : FinishCases DoneAsks
finishes = record {
  needs = λ d op n x is out first. free_call _ op (Needs n) refl refl;
  begun = λ d op h x is held cover. moved_asks d op h held (begins h op) (begins_asks h op);
  asks = λ d op n h x is out held. under_asks d op n h;
  gives_back = λ d u x none out. gives_asks d u none;
}

finished_asks : (d : Done) → DoneAsks d → ClientAsks (finished d).client
unfolding finished
finished_asks d x = each_finish DoneAsks finishes d x

-- ---- answers

module _ (x : Client) (a : Answer) (w : ClientAsks x) where
  abbrev freed : Done
  freed = quiet (record x { outstanding = None })

  given : (op : CallOp) (r : Result Held Why) → DoneAsks (answered_get freed op r)
  given op (Err why) = tt
  given op (Ok h) = free_call _ op Starts refl refl

  again : (op : CallOp) (t : Turn) → Refuses t → DoneAsks (by_turn freed op t)
  again op (Goes (Needs (Get tries))) r = free_call _ op (Needs (Get tries)) refl refl
  again op (Ends o) r = tt
  again op t r = absurd r

  got : (op : CallOp) (tries : ℕ) (b : Bool) →
      DoneAsks (if b then answered_get freed op (taken a op) else by_turn freed op (not_granted a tries))
  unfolding not_granted
  got op tries true = given op (taken a op)
  got op tries false =
      again op (refused_with (status_of a.results) a.detail tries) (refused_with_refuses (status_of a.results) a.detail tries)

  not_ok : (h : Held) → MovedAsks h (turned h (not_committed (status_of a.results) a.detail))
  unfolding not_committed
  not_ok h = by (status_of a.results == NFS4ERR_BADLAYOUT)
    where
      by : (b : Bool) → MovedAsks h (turned h (if b then Forgets (Status (status_of a.results) a.detail)
          else Ends (Status (status_of a.results) a.detail)))
      by true = quiet_asks h _ tt
      by false = quiet_asks h _ tt

  commit : (op : CallOp) (timed : List TimedOut) → (o : Option Held) → held_of x.held (file_of op) ≡ o →
      DoneAsks (commit_under freed op a (Commit timed) o)
  unfolding on_commit
  commit op timed None held = w
  commit op timed (Some h) held = by (status_of a.results == NFS4_OK)
    where
      by : (b : Bool) → DoneAsks (moved freed op (if b then committed h op a timed
          else turned h (not_committed (status_of a.results) a.detail)))
      by true =
          moved_asks freed op h held (committed h op a timed)
          (record { file = refl; map = refl; turn = accounted_asks h op h.map timed })
      by false = moved_asks freed op h held (turned h (not_committed (status_of a.results) a.detail)) (not_ok h)

  by_need : (op : CallOp) (n : Need) → DoneAsks (on_need freed op n a)
  by_need op First = free_call _ op Starts refl refl
  by_need op (Get tries) = got op tries (status_of a.results == NFS4_OK)
  by_need op (Commit timed) = commit op timed (held_of x.held (file_of op)) refl
  by_need op (Report timed) = tt
  by_need op (Close u report) = tt

  by_phase : (op : CallOp) (p : Phase) → DoneAsks (on_phase freed op p a)
  by_phase op (Waits n) = by_need op n
  by_phase op Starts = w
  by_phase op (Needs n) = w
  by_phase op (Reads io) = w
  by_phase op (Probes io) = w
  by_phase op (Gathers io) = w
  by_phase op (Scatters io queue) = w

  answered_asks : (o : Option Call) → DoneAsks (on_call freed o a)
  answered_asks None = w
  answered_asks (Some call) = by_phase call.op call.phase

-- ---- each turn

module _ (x : Client) (w : ClientAsks x) where
  under : (call : Call) (h : Held) → x.call ≡ Some call → held_of x.held (file_of call.op) ≡ Some h → PhaseAsks h.map call.phase
  under call h is held = let k : CallAsks x.held (Some call) = subst (CallAsks x.held) is w in k h held

  cases : (i : Input) → TurnCases x i (λ t. ClientAsks t.client)
  cases i = record {
    rests = w;
    nothing = λ op is empty. w;
    called = λ op is none can. finished_asks (quiet (with_start x op)) (free_call _ op Starts refl refl);
    answered = λ a q. finished_asks (on_call (quiet (record x { outstanding = None })) x.call a) (answered_asks x a w x.call);
    replied = λ drive q call h a r. finished_asks (moved (quiet x) call.op (replied h call.op call.phase a q))
        (moved_asks (quiet x) call.op h r.held (replied h call.op call.phase a q)
        (replied_asks h call.op call.phase a q (under call h r.call_is r.held)));
    unheld = finished_asks (quiet x) w;
    recalled = λ q is. finished_asks (obeys x q) w;
    unmatched = λ q is. finished_asks (no_match x q) w;
    timed = λ n call h a xs r. finished_asks (moved (quiet x) call.op (timed_out h call.op call.phase n a xs))
        (moved_asks (quiet x) call.op h r.held (timed_out h call.op call.phase n a xs)
        (timed_asks h call.op call.phase n a xs (under call h r.call_is r.held)));
    leaves = λ is. finished_asks (quiet (record x { due = all_due x.due x.held })) w;
    resends = λ is. w;
  }

  step_asks : (i : Input) → ClientAsks (step x i).client
  step_asks i = each_turn x i (λ t. ClientAsks t.client) (cases i)

pub asks_kept : IsKeptByClients (λ n x. ClientAsks x)
asks_kept = record {
  more = λ n k x w. w;
  made = λ n number. tt;
  steps = λ n x i number wrote logged w. step_asks x w i;
}
