-- Whatever comes to a client: what its call awaits is of its kind, with nonces that differ, what it has queued stands behind
-- that, and what it sends it awaits.
-- Towards `CallsGoOn` (`relation_law/specs/Steps.antt`).
use Rattle.std.proofs.Common.{◌≡◌, ◌==◌, ℕ, Bool, true, false, List, [], ◌∷◌, map, Option, Some, None, Result, Ok, Err, refl, sym, ap, subst, ◌∙◌, inl, inr, if◌then◌else◌}
use Rattle.layout_ops.specs.declared.messages.Answer.{Answer}
use Rattle.layout_ops.specs.declared.statuses.TheConstants.{NFS4_OK, NFS4ERR_BADLAYOUT}
use Rattle.osd_commands.specs.declared.replies.Reply.{Reply}
use Rattle.server_rules.specs.Laws.{In}
use Rattle.client_rules.specs.Answers.{not_granted, refused_with, on_commit, committed, not_committed}
use Rattle.client_rules.specs.Calls.{file_of}
use Rattle.client_rules.specs.Going.{quiet, moved, phased, by_turn, with_held, begins, begun, asks_under, returns, requests}
use Rattle.client_rules.specs.Grants.{held_of}
use Rattle.client_rules.specs.History.{Input, step}
use Rattle.client_rules.specs.Io.{awaited_in}
use Rattle.client_rules.specs.Layouts.{taken}
use Rattle.client_rules.specs.Messages.{finished, on_call, on_phase, on_need, answered_get, commit_under, obeys, no_match}
use Rattle.client_rules.specs.Replies.{replied, timed_out, answers}
use Rattle.client_rules.specs.Results.{status_of}
use Rattle.client_rules.specs.Steps.{all_due}
use Rattle.client_rules.specs.Turns.{turned}
use Rattle.client_rules.proofs.HeldGrants.{held_file, put_at}
use Rattle.client_rules.proofs.ReadSteps.{Refuses, refused_with_refuses}
use Rattle.world_history.specs.ClientNames.{Awaited, Client, Call, CallOp, Held, Due, TimedOut, Need, First, Get, Commit, Report, Close, Phase, Starts, Needs, Waits, Reads, Probes, Gathers, Scatters, Turn, Goes, Ends, Forgets, Moved, Done, Why, Status}
use Rattle.history_law.specs.Turns.{with_start, IsReplied, IsTimed, TurnCases, FinishCases}
use Rattle.history_law.proofs.Turns.{each_turn, each_finish, each_begin}
use Rattle.client_rules.specs.Laws.{nonce_of}
use Rattle.exchange_law.specs.ClientNonces.{AllDiffer, NoneIs}
use Rattle.relation_law.proofs.MessagesAlways.{found_one}
use Rattle.relation_law.proofs.RequestsDealt.{file_of_moved, replied_file, timed_out_file, begins_file}
use Rattle.relation_law.specs.CallsTurns.{IsWorking}
use Rattle.relation_law.specs.Working.{QueueIn, WorksUnder, CallWorks, ClientWorks, SentIn, DoneWorks, TurnWorks, MovedWorks}
use Rattle.relation_law.proofs.Works.{ends, forgets, works_of, free_works, quiet_works, accounted_works, replied_works, timed_works, begins_works}

pub none_sent : (cs : List Awaited) (x : Option Call) → cs ≡ [] → SentIn cs x
none_sent cs None none = tt
none_sent cs (Some call) none = λ a i. absurd (subst (In a) none i)

none_works : (d : Done) → d.client.call ≡ None → DoneWorks d
none_works d none = record {
  call = subst (CallWorks d.client.held) (sym none) tt;
  sent = subst (SentIn d.commands) (sym none) tt;
}

-- a call that needs nothing of the drives
pub free_call : (hs : List Held) (op : CallOp) (p : Phase) → awaited_in p ≡ [] → (IsWorking p → ⊥) → QueueIn p →
    CallWorks hs (Some (record { op = op; phase = p }))
free_call hs op p none idle queue = (λ z. absurd (idle z), λ k e. free_works k p none queue)

-- ---- dealings with the drives

module _ (d : Done) (op : CallOp) (h : Held) (held : held_of d.client.held (file_of op) ≡ Some h) (m : Moved)
    (file : m.held.file ≡ h.file) where
  here : m.held.file ≡ file_of op
  here = file ∙ held_file d.client.held (file_of op) h held

  by_turn_works : (t : Turn) → TurnWorks m.held m.sent t →
      DoneWorks (by_turn (record (with_held d m.held) { commands = m.sent }) op t)
  by_turn_works (Goes p) w =
      let both = works_of m.held m.sent p w in
      record {
        call = (
          λ z. (m.held, put_at d.client.held m.held (file_of op) here),
          λ k e.
              let same : m.held ≡ k = cc (sym (put_at d.client.held m.held (file_of op) here) ∙ e) in
              subst (λ (x : Held). WorksUnder x p) same both.0,
        );
        sent = both.1;
      }
  by_turn_works (Ends u) w = record { call = tt; sent = tt }
  by_turn_works (Forgets u) w = record { call = tt; sent = tt }

  pub moved_works : MovedWorks h m → DoneWorks (moved d op m)
  moved_works w = by_turn_works m.turn w.turn

-- ---- to the end of a turn

-- nothing was sent for a call that has not begun, or that needs something
idle_sent : (d : Done) (call : Call) → d.client.call ≡ Some call → awaited_in call.phase ≡ [] → DoneWorks d → (a : Awaited) →
    In a d.commands → ⊥
idle_sent d call is none w a i =
    let sent : SentIn d.commands (Some call) = subst (SentIn d.commands) is w.sent in
    subst (In a) none (sent a i)

asks_works : (d : Done) (op : CallOp) (n : Need) (h : Option Held) → d.client.call ≡ Some (record { op = op; phase = Needs n }) →
    DoneWorks d → DoneWorks (asks_under d op n h)
unfolding requests
asks_works d op n None is w = record {
  call = free_call _ op (Waits n) refl (λ z. z) tt;
  sent = λ a i. idle_sent d (record { op = op; phase = Needs n }) is refl w a i;
}
asks_works d op n (Some h) is w = record {
  call = free_call _ op (Waits n) refl (λ z. z) tt;
  sent = λ a i. idle_sent d (record { op = op; phase = Needs n }) is refl w a i;
}

gives_works : (d : Done) (u : Option Due) → d.client.call ≡ None → DoneWorks (returns d u)
unfolding requests
gives_works d None none = none_works (returns d None) none
gives_works d (Some u) none = none_works (returns d (Some u)) none

needs_works : (d : Done) (op : CallOp) (n : Need) → d.client.call ≡ Some (record { op = op; phase = Starts }) → DoneWorks d →
    DoneWorks (phased d op (Needs n))
needs_works d op n is w =
    record {
      call = free_call _ op (Needs n) refl (λ z. z) tt;
      sent = λ a i. idle_sent d (record { op = op; phase = Starts }) is refl w a i;
    }

begun_call_works : (d : Done) (op : CallOp) (h : Held) → held_of d.client.held (file_of op) ≡ Some h →
    DoneWorks (moved d op (begins h op))
begun_call_works d op h held =
    moved_works d op h held (begins h op) (file_of_moved h (begins h op) (begins_file h op)) (begins_works h op)

-- behind the begin of a call
pub begun_works : (d : Done) → DoneWorks d → DoneWorks (begun d)
begun_works d w = each_begin d DoneWorks (record {
  stays = w;
  needs = λ op n is out first. needs_works d op n is w;
  begun = λ op h is held cover. begun_call_works d op h held;
})

pub finishes : FinishCases DoneWorks
finishes = record {
  needs = λ d op n w is out first. needs_works d op n is w;
  begun = λ d op h w is held cover. begun_call_works d op h held;
  asks = λ d op n h w is out held. asks_works d op n h is w;
  gives_back = λ d u w none out. gives_works d u none;
}

pub finished_works : (d : Done) → DoneWorks d → ClientWorks (finished d).client
unfolding finished
finished_works d w = (each_finish DoneWorks finishes d w).call

-- ---- answers

module _ (x : Client) (a : Answer) (w : ClientWorks x) where
  abbrev freed : Done
  freed = quiet (record x { outstanding = None })

  as_it_is : DoneWorks freed
  as_it_is = record { call = w; sent = none_sent [] x.call refl }

  given : (op : CallOp) (r : Result Held Why) → DoneWorks (answered_get freed op r)
  given op (Err why) = record { call = tt; sent = tt }
  given op (Ok h) = record { call = free_call _ op Starts refl (λ z. z) tt; sent = λ b i. i }

  again : (op : CallOp) (t : Turn) → Refuses t → DoneWorks (by_turn freed op t)
  again op (Goes (Needs (Get tries))) r = record { call = free_call _ op (Needs (Get tries)) refl (λ z. z) tt; sent = λ b i. i }
  again op (Ends o) r = record { call = tt; sent = tt }
  again op t r = absurd r

  got : (op : CallOp) (tries : ℕ) (b : Bool) →
      DoneWorks (if b then answered_get freed op (taken a op) else by_turn freed op (not_granted a tries))
  unfolding not_granted
  got op tries true = given op (taken a op)
  got op tries false =
      again op (refused_with (status_of a.results) a.detail tries) (refused_with_refuses (status_of a.results) a.detail tries)

  not_ok : (h : Held) → MovedWorks h (turned h (not_committed (status_of a.results) a.detail))
  unfolding not_committed
  not_ok h = by (status_of a.results == NFS4ERR_BADLAYOUT)
    where
      by : (b : Bool) → MovedWorks h (turned h (if b then Forgets (Status (status_of a.results) a.detail)
          else Ends (Status (status_of a.results) a.detail)))
      by true = quiet_works h _ (forgets h [] _)
      by false = quiet_works h _ (ends h [] _)

  commit : (op : CallOp) (timed : List TimedOut) → (o : Option Held) → held_of x.held (file_of op) ≡ o →
      DoneWorks (commit_under freed op a (Commit timed) o)
  unfolding on_commit
  commit op timed None held = as_it_is
  commit op timed (Some h) held = by (status_of a.results == NFS4_OK)
    where
      by : (b : Bool) → DoneWorks (moved freed op (if b then committed h op a timed
          else turned h (not_committed (status_of a.results) a.detail)))
      by true =
          moved_works freed op h held (committed h op a timed) refl
          (record { turn = accounted_works h op _ [] timed (λ b i. i); above = λ b i. absurd i })
      by false = moved_works freed op h held (turned h (not_committed (status_of a.results) a.detail)) refl (not_ok h)

  by_need : (op : CallOp) (n : Need) → DoneWorks (on_need freed op n a)
  by_need op First = record { call = free_call _ op Starts refl (λ z. z) tt; sent = λ b i. i }
  by_need op (Get tries) = got op tries (status_of a.results == NFS4_OK)
  by_need op (Commit timed) = commit op timed (held_of x.held (file_of op)) refl
  by_need op (Report timed) = record { call = tt; sent = tt }
  by_need op (Close u report) = record { call = tt; sent = tt }

  by_phase : (op : CallOp) (p : Phase) → DoneWorks (on_phase freed op p a)
  by_phase op (Waits n) = by_need op n
  by_phase op Starts = as_it_is
  by_phase op (Needs n) = as_it_is
  by_phase op (Reads io) = as_it_is
  by_phase op (Probes io) = as_it_is
  by_phase op (Gathers io) = as_it_is
  by_phase op (Scatters io queue) = as_it_is

  pub answered_works : (o : Option Call) → DoneWorks (on_call freed o a)
  answered_works None = as_it_is
  answered_works (Some call) = by_phase call.op call.phase

-- ---- each turn

-- of what is awaited one has this nonce
none_at : (n : ℕ) (xs : List Awaited) → NoneIs n (map nonce_of xs) → (b : Awaited) → In b xs → nonce_of b ≡ n → ⊥
none_at n [] none b i same = absurd i
none_at n (x ∷ xs) none b (inl is) same = none.0 (sym same ∙ ap nonce_of is)
none_at n (x ∷ xs) none b (inr i) same = none_at n xs none.1 b i same

same_by_nonce : (xs : List Awaited) → AllDiffer (map nonce_of xs) → (a b : Awaited) → In a xs → In b xs →
    nonce_of b ≡ nonce_of a → b ≡ a
same_by_nonce [] d a b i j same = absurd i
same_by_nonce (x ∷ xs) d a b (inl is) (inl too) same = too ∙ sym is
same_by_nonce (x ∷ xs) d a b (inl is) (inr j) same =
    absurd (none_at (nonce_of x) xs d.0 b j (same ∙ ap nonce_of is))
same_by_nonce (x ∷ xs) d a b (inr i) (inl too) same =
    absurd (none_at (nonce_of x) xs d.0 a i (sym same ∙ ap nonce_of too))
same_by_nonce (x ∷ xs) d a b (inr i) (inr j) same = same_by_nonce xs d.1 a b i j same

pub one_by_nonce : (h : Held) (p : Phase) → WorksUnder h p → (a : Awaited) → In a (awaited_in p) → (b : Awaited) →
    In b (awaited_in p) → b.command.nonce ≡ a.command.nonce → b ≡ a
one_by_nonce h p w a i b j same = same_by_nonce (awaited_in p) w.nonces.differ a b i j same

module _ (x : Client) (w : ClientWorks x) where
  pub under : (call : Call) (h : Held) → x.call ≡ Some call → held_of x.held (file_of call.op) ≡ Some h → WorksUnder h call.phase
  under call h is held = let k : CallWorks x.held (Some call) = subst (CallWorks x.held) is w in k.1 h held

  pub resting : (y : Client) → y.call ≡ x.call → y.held ≡ x.held → DoneWorks (quiet y)
  resting y call held = record {
    call = rw (call, held) w;
    sent = none_sent [] y.call refl;
  }

  pub replied_done : (i : Input) (drive : ℕ) (q : Reply) (call : Call) (h : Held) (a : Awaited) → IsReplied x i drive q call h a →
      DoneWorks (moved (quiet x) call.op (replied h call.op call.phase a q))
  replied_done i drive q call h a r =
      let k = under call h r.call_is r.held in
      moved_works (quiet x) call.op h r.held (replied h call.op call.phase a q)
      (file_of_moved h (replied h call.op call.phase a q) (replied_file h call.op call.phase a q))
      (replied_works h call.op call.phase a q k
      (λ b j. one_by_nonce h call.phase k a (found_one (answers drive q) (awaited_in call.phase) a r.awaits) b j))

  pub timed_done : (i : Input) (n : ℕ) (call : Call) (h : Held) (a : Awaited) (xs : List Awaited) → IsTimed x i n call h a xs →
      DoneWorks (moved (quiet x) call.op (timed_out h call.op call.phase n a xs))
  timed_done i n call h a xs r =
      moved_works (quiet x) call.op h r.held (timed_out h call.op call.phase n a xs)
      (file_of_moved h (timed_out h call.op call.phase n a xs) (timed_out_file h call.op call.phase n a xs))
      (timed_works h call.op call.phase n a xs (under call h r.call_is r.held))

  cases : (i : Input) → TurnCases x i (λ t. ClientWorks t.client)
  cases i = record {
    rests = w;
    nothing = λ op is empty. w;
    called = λ op is none can. finished_works (quiet (with_start x op))
        (record { call = free_call _ op Starts refl (λ z. z) tt; sent = λ b j. j });
    answered = λ a q. finished_works (on_call (quiet (record x { outstanding = None })) x.call a) (answered_works x a w x.call);
    replied = λ drive q call h a r. finished_works (moved (quiet x) call.op (replied h call.op call.phase a q))
        (replied_done i drive q call h a r);
    unheld = finished_works (quiet x) (resting x refl refl);
    recalled = λ q is. finished_works (obeys x q) (record { call = w; sent = none_sent [] x.call refl });
    unmatched = λ q is. finished_works (no_match x q) (record { call = w; sent = none_sent [] x.call refl });
    timed = λ n call h a xs r. finished_works (moved (quiet x) call.op (timed_out h call.op call.phase n a xs))
        (timed_done i n call h a xs r);
    leaves = λ is. finished_works (quiet (record x { due = all_due x.due x.held }))
        (record { call = w; sent = none_sent [] x.call refl });
    resends = λ is. w;
  }

  pub step_works : (i : Input) → ClientWorks (step x i).client
  step_works i = each_turn x i (λ t. ClientWorks t.client) (cases i)
