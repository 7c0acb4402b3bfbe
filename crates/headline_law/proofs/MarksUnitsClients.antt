-- Whatever comes to a client: what its call scatters lies in units.
-- Towards `WritesStayTied` (`specs/MarksTied.antt`).
use Rattle.std.proofs.Common.{◌≡◌, ◌==◌, ℕ, Bool, true, false, List, ◌∷◌, [], Option, Some, None, Result, Ok, Err, refl, sym, subst, ◌∙◌, if◌then◌else◌}
use Rattle.data_map.specs.Check.{IsChecked}
use Rattle.layout_ops.specs.declared.messages.Answer.{Answer}
use Rattle.layout_ops.specs.declared.statuses.TheConstants.{NFS4_OK, NFS4ERR_BADLAYOUT}
use Rattle.client_rules.specs.Answers.{not_granted, refused_with, on_commit, committed, not_committed}
use Rattle.client_rules.specs.Calls.{file_of}
use Rattle.client_rules.specs.Going.{quiet, moved, by_turn, with_held, begins, asks_under, returns, requests}
use Rattle.client_rules.specs.Grants.{held_of}
use Rattle.client_rules.specs.History.{Input, step}
use Rattle.client_rules.specs.Layouts.{taken}
use Rattle.client_rules.specs.Messages.{finished, on_call, on_phase, on_need, answered_get, commit_under}
use Rattle.client_rules.specs.Replies.{replied, timed_out}
use Rattle.client_rules.specs.Results.{status_of}
use Rattle.client_rules.specs.Turns.{turned}
use Rattle.client_rules.specs.Writes.{accounted}
use Rattle.client_rules.proofs.HeldGrants.{held_file, put_at}
use Rattle.client_rules.proofs.ReadSteps.{Refuses, refused_with_refuses}
use Rattle.world_history.specs.ClientNames.{Client, Call, CallOp, Held, Due, TimedOut, Need, First, Get, Commit, Report, Close, Phase, Starts, Needs, Waits, Reads, Probes, Gathers, Scatters, Turn, Goes, Ends, Forgets, Moved, Done, Why, Status}
use Rattle.history_law.specs.Turns.{TurnCases, FinishCases}
use Rattle.history_law.proofs.Turns.{each_turn, each_finish}
use Rattle.exchange_law.proofs.ClientMoves.{IsKeptByClients}
use Rattle.relation_law.proofs.RequestsDealt.{file_of_moved, replied_file, timed_out_file, begins_file}
use Rattle.headline_law.proofs.MarksUnitsStores.{PhaseLies, TurnLies, MovedLies, replied_lies, timed_lies, begins_lie}

-- what a call scatters lies in units of its grant's map, where that is right
abbrev pub CallLies : List Held → Option Call → Type 0
CallLies hs None = Unit {0}
CallLies hs (Some call) =
    (h : Held) → held_of hs (file_of call.op) ≡ Some h → IsChecked h.map → PhaseLies h.map.unit call.phase

abbrev pub ClientLies : Client → Type 0
ClientLies x = CallLies x.held x.call

abbrev DoneLies : Done → Type 0
DoneLies d = CallLies d.client.held d.client.call

none_lies : (d : Done) → d.client.call ≡ None → DoneLies d
none_lies d none = subst (CallLies d.client.held) (sym none) tt

-- ---- dealings with the drives

module _ (d : Done) (op : CallOp) (h : Held) (held : held_of d.client.held (file_of op) ≡ Some h) (m : Moved)
    (file : m.held.file ≡ h.file) where
  here : m.held.file ≡ file_of op
  here = file ∙ held_file d.client.held (file_of op) h held

  by_turn_lies : (t : Turn) → (IsChecked m.held.map → TurnLies m.held.map.unit t) →
      DoneLies (by_turn (record (with_held d m.held) { commands = m.sent }) op t)
  by_turn_lies (Goes p) w =
      λ k e.
      let same : m.held ≡ k = cc (sym (put_at d.client.held m.held (file_of op) here) ∙ e) in
      subst (λ (x : Held). IsChecked x.map → PhaseLies x.map.unit p) same w
  by_turn_lies (Ends u) w = tt
  by_turn_lies (Forgets u) w = tt

  moved_lies : MovedLies m → DoneLies (moved d op m)
  moved_lies w = by_turn_lies m.turn w

-- ---- to the end of a turn

asks_lie : (d : Done) (op : CallOp) (n : Need) (h : Option Held) → DoneLies (asks_under d op n h)
unfolding requests
asks_lie d op n None = λ k e c. tt
asks_lie d op n (Some h) = λ k e c. tt

gives_lie : (d : Done) (u : Option Due) → d.client.call ≡ None → DoneLies (returns d u)
unfolding requests
gives_lie d None none = none_lies (returns d None) none
gives_lie d (Some u) none = none_lies (returns d (Some u)) none

finishes : FinishCases DoneLies
finishes = record {
  needs = λ d op n w is out first k e c. tt;
  begun = λ d op h w is held cover.
      moved_lies d op h held (begins h op) (file_of_moved h (begins h op) (begins_file h op)) (begins_lie h op);
  asks = λ d op n h w is out held. asks_lie d op n h;
  gives_back = λ d u w none out. gives_lie d u none;
}

finished_lies : (d : Done) → DoneLies d → ClientLies (finished d).client
unfolding finished
finished_lies d w = each_finish DoneLies finishes d w

-- ---- answers

module _ (x : Client) (a : Answer) (w : ClientLies x) where
  abbrev freed : Done
  freed = quiet (record x { outstanding = None })

  given : (op : CallOp) (r : Result Held Why) → DoneLies (answered_get freed op r)
  given op (Err why) = tt
  given op (Ok h) = λ k e c. tt

  again : (op : CallOp) (t : Turn) → Refuses t → DoneLies (by_turn freed op t)
  again op (Goes (Needs (Get tries))) r = λ k e c. tt
  again op (Ends o) r = tt
  again op t r = absurd r

  got : (op : CallOp) (tries : ℕ) (b : Bool) →
      DoneLies (if b then answered_get freed op (taken a op) else by_turn freed op (not_granted a tries))
  unfolding not_granted
  got op tries true = given op (taken a op)
  got op tries false =
      again op (refused_with (status_of a.results) a.detail tries) (refused_with_refuses (status_of a.results) a.detail tries)

  not_ok : (h : Held) → MovedLies (turned h (not_committed (status_of a.results) a.detail))
  unfolding not_committed
  not_ok h = by (status_of a.results == NFS4ERR_BADLAYOUT)
    where
      by : (b : Bool) → MovedLies (turned h (if b then Forgets (Status (status_of a.results) a.detail)
          else Ends (Status (status_of a.results) a.detail)))
      by true = λ c. tt
      by false = λ c. tt

  accounted_lies : (unit : ℕ) (op : CallOp) (timed : List TimedOut) → TurnLies unit (accounted op timed)
  accounted_lies unit op [] = tt
  accounted_lies unit op (t ∷ ts) = tt

  commit : (op : CallOp) (timed : List TimedOut) → (o : Option Held) → held_of x.held (file_of op) ≡ o →
      DoneLies freed → DoneLies (commit_under freed op a (Commit timed) o)
  unfolding on_commit
  commit op timed None held as_it_is = as_it_is
  commit op timed (Some h) held as_it_is = by (status_of a.results == NFS4_OK)
    where
      by : (b : Bool) → DoneLies (moved freed op (if b then committed h op a timed
          else turned h (not_committed (status_of a.results) a.detail)))
      by true = moved_lies freed op h held (committed h op a timed) refl (λ c. accounted_lies _ op timed)
      by false = moved_lies freed op h held (turned h (not_committed (status_of a.results) a.detail)) refl (not_ok h)

  by_need : (op : CallOp) (n : Need) → DoneLies (on_need freed op n a)
  by_need op First = λ k e c. tt
  by_need op (Get tries) = got op tries (status_of a.results == NFS4_OK)
  by_need op (Commit timed) = commit op timed (held_of x.held (file_of op)) refl w
  by_need op (Report timed) = tt
  by_need op (Close u report) = tt

  by_phase : (op : CallOp) (p : Phase) → DoneLies (on_phase freed op p a)
  by_phase op (Waits n) = by_need op n
  by_phase op Starts = w
  by_phase op (Needs n) = w
  by_phase op (Reads io) = w
  by_phase op (Probes io) = w
  by_phase op (Gathers io) = w
  by_phase op (Scatters io queue) = w

  answered_lies : (o : Option Call) → DoneLies (on_call freed o a)
  answered_lies None = w
  answered_lies (Some call) = by_phase call.op call.phase

-- ---- each turn

module _ (x : Client) (w : ClientLies x) where
  under : (call : Call) (h : Held) → x.call ≡ Some call → held_of x.held (file_of call.op) ≡ Some h → IsChecked h.map →
      PhaseLies h.map.unit call.phase
  under call h is held = let k : CallLies x.held (Some call) = subst (CallLies x.held) is w in k h held

  cases : (i : Input) → TurnCases x i (λ t. ClientLies t.client)
  cases i = record {
    rests = w;
    nothing = λ op is empty. w;
    called = λ op is none can. finished_lies _ (λ k e c. tt);
    answered = λ a q. finished_lies (on_call (quiet (record x { outstanding = None })) x.call a) (answered_lies x a w x.call);
    replied = λ drive q call h a r. finished_lies (moved (quiet x) call.op (replied h call.op call.phase a q))
        (moved_lies (quiet x) call.op h r.held (replied h call.op call.phase a q)
        (file_of_moved h (replied h call.op call.phase a q) (replied_file h call.op call.phase a q))
        (replied_lies h call.op call.phase a q (under call h r.call_is r.held)));
    unheld = finished_lies (quiet x) w;
    recalled = λ q is. finished_lies _ w;
    unmatched = λ q is. finished_lies _ w;
    timed = λ n call h a xs r. finished_lies (moved (quiet x) call.op (timed_out h call.op call.phase n a xs))
        (moved_lies (quiet x) call.op h r.held (timed_out h call.op call.phase n a xs)
        (file_of_moved h (timed_out h call.op call.phase n a xs) (timed_out_file h call.op call.phase n a xs))
        (timed_lies h call.op call.phase n a xs (under call h r.call_is r.held)));
    leaves = λ is. finished_lies _ w;
    resends = λ is. w;
  }

  step_lies : (i : Input) → ClientLies (step x i).client
  step_lies i = each_turn x i (λ t. ClientLies t.client) (cases i)

pub lies_kept : IsKeptByClients (λ n x. ClientLies x)
lies_kept = record {
  more = λ n k x w. w;
  made = λ n number. tt;
  steps = λ n x i number wrote logged w. step_lies x w i;
}
