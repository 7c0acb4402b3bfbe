-- What is so in each case of a turn of a client is so of each turn. This is the one walk over the clients' turns.
use Rattle.std.proofs.Common.{◌≡◌, ◌≢◌, ◌==◌, ◌+◌, ◌∙◌, ℕ, zero, suc, Bool, true, false, List, [], ◌∷◌, Option, Some, None, Result, Ok, Err, nat_lt, find, is_some, refl, sym, ap, subst, if◌then◌else◌}
use Rattle.std.proofs.lemmas.Bool.{eqb-true}
use Rattle.osd_lists.specs.declared.node.Node.{Node}
use Rattle.osd_lists.specs.declared.node.Node.TheVariants.{Server as FromServer, Drive as FromDrive}
use Rattle.layout_ops.specs.declared.messages.Answer.{Answer}
use Rattle.layout_ops.specs.declared.statuses.TheConstants.{NFS4_OK, NFS4ERR_NOENT, NFS4ERR_LAYOUTTRYLATER, NFS4ERR_RECALLCONFLICT, NFS4ERR_LAYOUTUNAVAILABLE}
use Rattle.client_rules.specs.declared.limits.TheConstants.{MAX_TRIES}
use Rattle.client_rules.specs.Answers.{busy, unavailable, refused_with, not_granted}
use Rattle.client_rules.specs.Calls.{file_of, span_of}
use Rattle.client_rules.specs.Commands.{of_component}
use Rattle.client_rules.specs.Going.{quiet, by_turn, moved, begins, starts_with, starts_under, starts_at, starts_call, begun, is_held, returns, returns_due, progress_phase, progress_call, progress_free, progressed}
use Rattle.client_rules.specs.Grants.{covers, held_of}
use Rattle.client_rules.specs.History.{Input, Calls, Hears, TimesOut, Leaves, Resends, unless_refused, step}
use Rattle.client_rules.specs.Io.{awaited_in}
use Rattle.client_rules.specs.Layouts.{taken}
use Rattle.client_rules.specs.Messages.{Step, Message, Answers, Replies, Recalls, TakesAnswer, TakesReply, TakesRecall, is_awaited, still, finished, obeys, no_match, recalled, takes, by_taken, hears, answer_taken, reply_taken, awaited_of, reply_call, reply_under, answered_get, commit_under, on_need, on_phase, on_call}
use Rattle.client_rules.specs.Replies.{answers}
use Rattle.client_rules.specs.Requests.{grant_in}
use Rattle.client_rules.specs.Results.{status_of}
use Rattle.client_rules.specs.Steps.{is_bad_range, is_spent, writes_nothing, starts, calls, timeout_under, timeout_call, times_out, leaves}
use Rattle.world_history.specs.ClientNames.{Client, Call, CallOp, Busy, BadRange, SlotSpent, Held, Awaited, TimedOut, Request, Recall, Reply, Why, Done}
use Rattle.world_history.specs.ClientNames.{Need, First, Get, Commit, Report, Close, Phase, Starts, Needs, Waits, Reads, Probes, Gathers, Scatters}
use Rattle.world_history.specs.ClientNames.{Turn, Goes, Ends, Outcome, WriteOk, NoFile, HeldBy, Fencing, Status}
use Rattle.history_law.specs.Turns.{IsReplied, IsBeginning, IsWaiting, IsFirstNeed, with_start, TurnCases, BeginCases, ProgressCases, FinishCases, RefusalCases, AnswerCases}

-- ---- what comes to a client

module _ (c : Client) (i : Input) (P : Step → Type 0) (k : TurnCases c i P) where
  -- ---- a call

  none_is : (o : Option Call) → is_some o ≡ false → o ≡ None
  none_is None e = refl
  none_is (Some call) e = absurd (cc e)

  started : (op : CallOp) → i ≡ Calls op → is_some c.call ≡ false → is_bad_range (span_of op) ≡ false
      → is_spent c.next ≡ false → (b : Bool) → writes_nothing op ≡ b
      → P (if b then record (still c) { outcome = Some (WriteOk 0) } else finished (quiet (with_start c op)))
  started op is free fits left true e = k.nothing op is e
  started op is free fits left false e =
      k.called op is (none_is c.call free) (record { range = fits; numbers = left; some = e })

  called : (op : CallOp) → i ≡ Calls op → (a b s : Bool) → is_some c.call ≡ a → is_bad_range (span_of op) ≡ b
      → is_spent c.next ≡ s
      → P (unless_refused c (if a then Err Busy else if b then Err BadRange else if s then Err SlotSpent
      else Ok (starts c op)))
  called op is true b s free fits left = k.rests
  called op is false true s free fits left = k.rests
  called op is false false true free fits left = k.rests
  called op is false false false free fits left = started op is free fits left (writes_nothing op) refl

  -- ---- a message

  under_grant : (drive : ℕ) (q : Reply) → i ≡ Hears (FromDrive drive) (Replies q) → (call : Call) → c.call ≡ Some call
      → (a : Awaited) → find (answers drive q) (awaited_in call.phase) ≡ Some a → (h : Option Held)
      → held_of c.held (file_of call.op) ≡ h → P (finished (reply_under c call a q h))
  under_grant drive q is call call_is a awaits None held = k.unheld
  under_grant drive q is call call_is a awaits (Some h) held =
      k.replied drive q call h a (record { is = is; call_is = call_is; held = held; awaits = awaits })

  replies : (drive : ℕ) (q : Reply) → i ≡ Hears (FromDrive drive) (Replies q) → (o : Option Call) → c.call ≡ o
      → (a : Option Awaited) → find (answers drive q) (awaited_of o) ≡ a → P (by_taken c (reply_taken q a))
  replies drive q is o call_is None awaits = k.rests
  replies drive q is None call_is (Some a) awaits = absurd (cc awaits)
  replies drive q is (Some call) call_is (Some a) awaits =
      subst (λ (o : Option Call). P (finished (reply_call c a q o))) (sym call_is)
      (under_grant drive q is call call_is a awaits (held_of c.held (file_of call.op)) refl)

  answers_it : (a : Answer) → i ≡ Hears FromServer (Answers a) → (r : Request) → c.outstanding ≡ Some r
      → (b : Bool) → is_awaited c a r ≡ b
      → (takes c FromServer (Answers a) ≡ (if b then Some (TakesAnswer a) else None))
      → P (by_taken c (if b then Some (TakesAnswer a) else None))
  answers_it a is r out true awaited took =
      k.answered a
      (record {
        from = FromServer;
        message = Answers a;
        is = is;
        heard = is;
        takes_it = took;
        request = r;
        outstanding = out;
        awaited = awaited;
      })
  answers_it a is r out false awaited took = k.rests

  outstanding_is : (a : Answer) → i ≡ Hears FromServer (Answers a) → (o : Option Request) → c.outstanding ≡ o
      → takes c FromServer (Answers a) ≡ answer_taken c a o → P (by_taken c (answer_taken c a o))
  outstanding_is a is None out took = k.rests
  outstanding_is a is (Some r) out took = answers_it a is r out (is_awaited c a r) refl took

  matched : (q : Recall) → i ≡ Hears FromServer (Recalls q) → (b : Bool)
      → P (finished (if b then obeys c q else no_match c q))
  matched q is true = k.recalled q is
  matched q is false = k.unmatched q is

  recalls : (q : Recall) → i ≡ Hears FromServer (Recalls q) → (h : Option Held) → P (finished (recalled c q h))
  recalls q is None = k.unmatched q is
  recalls q is (Some h) = matched q is (h.number == grant_in q.args.stateid)

  named : (q : Recall) → i ≡ Hears FromServer (Recalls q) → (b : Bool)
      → P (by_taken c (if b then Some (TakesRecall q) else None))
  named q is true = recalls q is (held_of c.held q.file)
  named q is false = k.rests

  heard : (from : Node) (m : Message) → i ≡ Hears from m → P (hears c from m)
  unfolding hears takes
  heard (FromDrive d) (Replies q) is = replies d q is c.call refl (find (answers d q) (awaited_of c.call)) refl
  heard FromServer (Answers a) is = outstanding_is a is c.outstanding refl refl
  heard FromServer (Recalls q) is = named q is (q.client == c.number)
  heard from m is = k.rests

  -- ---- a timeout

  timed : (j : ℕ) → i ≡ TimesOut j → (call : Call) → c.call ≡ Some call → (h : Option Held)
      → held_of c.held (file_of call.op) ≡ h → (xs : List Awaited) → of_component j (awaited_in call.phase) ≡ xs
      → P (timeout_under c call j h xs)
  timed j is call call_is None held xs awaits = k.rests
  timed j is call call_is (Some h) held [] awaits = k.rests
  timed j is call call_is (Some h) held (a ∷ xs) awaits =
      k.timed j call h a xs (record { is = is; call_is = call_is; held = held; awaits = awaits })

  timeout : (j : ℕ) → i ≡ TimesOut j → (o : Option Call) → c.call ≡ o → P (timeout_call c j o)
  timeout j is None call_is = k.rests
  timeout j is (Some call) call_is =
      timed j is call call_is (held_of c.held (file_of call.op)) refl (of_component j (awaited_in call.phase)) refl

  by_input : (j : Input) → i ≡ j → P (step c j)
  unfolding calls times_out leaves
  by_input (Calls op) is = called op is (is_some c.call) (is_bad_range (span_of op)) (is_spent c.next) refl refl refl
  by_input (Hears from m) is = heard from m is
  by_input (TimesOut j) is = timeout j is c.call refl
  by_input Leaves is = k.leaves is
  by_input Resends is = k.resends is

  pub each_turn : P (step c i)
  each_turn = by_input i refl

-- a reply to what the call awaits is taken
pub reply_is_taken : (c : Client) (i : Input) (drive : ℕ) (q : Reply) (call : Call) (h : Held) (a : Awaited)
    → IsReplied c i drive q call h a → takes c (FromDrive drive) (Replies q) ≡ Some (TakesReply a q)
unfolding takes
reply_is_taken c i drive q call h a is =
    ap (reply_taken q) (ap (λ (o : Option Call). find (answers drive q) (awaited_of o)) is.call_is ∙ is.awaits)

-- ---- a call begins

module _ (d : Done) (P : Done → Type 0) (k : BeginCases d P) where
  with_need : (op : CallOp) (n : Need) → IsFirstNeed op n (held_of d.client.held (file_of op)) → IsBeginning d.client op
      → (o : Option Request) → d.client.outstanding ≡ o → P (starts_with d op n o)
  with_need op n first is None out = k.needs op n is out first
  with_need op n first is (Some r) out = k.stays

  covered : (op : CallOp) (h : Held) → IsBeginning d.client op → held_of d.client.held (file_of op) ≡ Some h
      → (b : Bool) → covers h op ≡ b
      → P (if b then moved d op (begins h op) else starts_with d op First d.client.outstanding)
  covered op h is held true e = k.begun op h is held e
  covered op h is held false e =
      with_need op First (subst (IsFirstNeed op First) (sym held) e) is d.client.outstanding refl

  under_held : (op : CallOp) → IsBeginning d.client op → (h : Option Held) → held_of d.client.held (file_of op) ≡ h
      → P (starts_under d op h)
  under_held op is None held =
      with_need op (Get 0) (subst (IsFirstNeed op (Get 0)) (sym held) refl) is d.client.outstanding refl
  under_held op is (Some h) held = covered op h is held (covers h op) refl

  at_phase : (op : CallOp) (p : Phase) → d.client.call ≡ Some (record { op = op; phase = p }) → P (starts_at d op p)
  at_phase op Starts is = under_held op is (held_of d.client.held (file_of op)) refl
  at_phase op (Needs n) is = k.stays
  at_phase op (Waits n) is = k.stays
  at_phase op (Reads io) is = k.stays
  at_phase op (Probes io) is = k.stays
  at_phase op (Gathers io) is = k.stays
  at_phase op (Scatters io queue) is = k.stays

  at_call : (o : Option Call) → d.client.call ≡ o → P (starts_call d o)
  at_call None is = k.stays
  at_call (Some call) is = at_phase call.op call.phase is

  pub each_begin : P (begun d)
  unfolding begun
  each_begin = at_call d.client.call refl

-- ---- a request goes out

zero_is : (n : ℕ) → (n == 0) ≡ true → n ≡ 0
zero_is n e = eqb-true n 0 e

not_zero : (n : ℕ) → (n == 0) ≡ false → n ≢ 0
not_zero zero e z = cc e
not_zero (suc n) e z = cc z

module _ (d : Done) (P : Done → Type 0) (k : ProgressCases d P) where
  numbered : d.client.call ≡ None → d.client.outstanding ≡ None → (b : Bool) → (d.client.next == 0) ≡ b
      → P (if b then d else returns d (find (is_held d.client.held) d.client.due))
  numbered none out true e = k.spent none out (zero_is d.client.next e)
  numbered none out false e = k.gives_back (find (is_held d.client.held) d.client.due) none out (not_zero d.client.next e) refl

  due : d.client.call ≡ None → d.client.outstanding ≡ None → P (returns_due d)
  unfolding returns_due
  due none out = numbered none out (d.client.next == 0) refl

  by_phase : (op : CallOp) (p : Phase) → d.client.call ≡ Some (record { op = op; phase = p })
      → d.client.outstanding ≡ None → P (progress_phase d op p)
  by_phase op (Needs n) is out = k.asks op n (held_of d.client.held (file_of op)) is out refl
  by_phase op Starts is out = k.works _ is out
  by_phase op (Waits n) is out = k.works _ is out
  by_phase op (Reads io) is out = k.works _ is out
  by_phase op (Probes io) is out = k.works _ is out
  by_phase op (Gathers io) is out = k.works _ is out
  by_phase op (Scatters io queue) is out = k.works _ is out

  by_call : (o : Option Call) → d.client.call ≡ o → d.client.outstanding ≡ None → P (progress_call d o)
  by_call None is out = due is out
  by_call (Some call) is out = by_phase call.op call.phase is out

  by_request : (o : Option Request) → d.client.outstanding ≡ o → P (progress_free d o)
  by_request None out = by_call d.client.call refl out
  by_request (Some r) out = k.waits r out

  pub each_progress : P (progressed d)
  unfolding progressed
  each_progress = by_request d.client.outstanding refl

-- ---- an answer

module _ (a : Answer) (tries : ℕ) (P : Turn → Type 0) (k : RefusalCases a tries P) where
  either_turn : (b : Bool) (t u : Turn) → P t → P u → P (if b then t else u)
  either_turn true t u x y = x
  either_turn false t u x y = y

  busied : (o : Outcome) → P (Ends o) → P (busy tries o)
  unfolding busy
  busied o ends = either (nat_lt (tries + 1) MAX_TRIES) refl
    where
      either : (b : Bool) → nat_lt (tries + 1) MAX_TRIES ≡ b → P (if b then Goes (Needs (Get (tries + 1))) else Ends o)
      either true few = k.again few
      either false few = ends

  by_status : (status : ℕ) → status ≡ status_of a.results → P (refused_with status a.detail tries)
  by_status status is =
      either_turn (status == NFS4ERR_NOENT) (Ends NoFile) _ k.no_file
      (either_turn (status == NFS4ERR_LAYOUTTRYLATER) (busy tries (HeldBy a.detail)) _ (busied (HeldBy a.detail) k.is_held)
      (either_turn (status == NFS4ERR_RECALLCONFLICT) (busy tries (Fencing a.detail)) _
      (busied (Fencing a.detail) k.is_fenced)
      (either_turn (status == NFS4ERR_LAYOUTUNAVAILABLE) (Ends (unavailable a.detail)) (Ends (Status status a.detail))
      k.none_given (subst (λ (n : ℕ). P (Ends (Status n a.detail))) (sym is) k.other))))

  pub each_refusal : P (not_granted a tries)
  unfolding not_granted
  each_refusal = by_status (status_of a.results) refl

module _ (d : Done) (a : Answer) (P : Done → Type 0) (k : AnswerCases d a P) where
  taking : (op : CallOp) (tries : ℕ) → IsWaiting d.client op (Get tries) → (r : Result Held Why) → taken a op ≡ r
      → P (answered_get d op r)
  taking op tries is (Err w) e = k.unusable op tries w is e
  taking op tries is (Ok h) e = k.granted op tries h is e

  on_get_by : (op : CallOp) (tries : ℕ) → IsWaiting d.client op (Get tries) → (b : Bool)
      → P (if b then answered_get d op (taken a op) else by_turn d op (not_granted a tries))
  on_get_by op tries is true = taking op tries is (taken a op) refl
  on_get_by op tries is false = k.refused op tries is

  committing : (op : CallOp) (timed : List TimedOut) → IsWaiting d.client op (Commit timed) → (h : Option Held)
      → held_of d.client.held (file_of op) ≡ h → P (commit_under d op a (Commit timed) h)
  committing op timed is None held = k.stays
  committing op timed is (Some h) held = k.committed op timed h is held

  on_need_by : (op : CallOp) (n : Need) → IsWaiting d.client op n → P (on_need d op n a)
  on_need_by op First is = k.returned op is
  on_need_by op (Get tries) is = on_get_by op tries is (status_of a.results == NFS4_OK)
  on_need_by op (Commit timed) is = committing op timed is (held_of d.client.held (file_of op)) refl
  on_need_by op (Report timed) is = k.reported op timed is
  on_need_by op (Close o report) is = k.closed op o report is

  on_phase_by : (op : CallOp) (p : Phase) → d.client.call ≡ Some (record { op = op; phase = p }) → P (on_phase d op p a)
  on_phase_by op (Waits n) is = on_need_by op n is
  on_phase_by op Starts is = k.stays
  on_phase_by op (Needs n) is = k.stays
  on_phase_by op (Reads io) is = k.stays
  on_phase_by op (Probes io) is = k.stays
  on_phase_by op (Gathers io) is = k.stays
  on_phase_by op (Scatters io queue) is = k.stays

  on_call_by : (o : Option Call) → d.client.call ≡ o → P (on_call d o a)
  on_call_by None is = k.stays
  on_call_by (Some call) is = on_phase_by call.op call.phase is

  pub each_answer : P (on_call d d.client.call a)
  each_answer = on_call_by d.client.call refl

-- ---- to the end of a turn

module _ (Q : Done → Type 0) (k : FinishCases Q) where
  pub each_finish : (d : Done) → Q d → Q (progressed (begun d))
  each_finish d q =
      let p : Q (begun d) =
      each_begin d Q (record {
        stays = q;
        needs = λ op n is out first. k.needs d op n q is out first;
        begun = λ op h is held covered. k.begun d op h q is held covered;
      }) in
      each_progress (begun d) Q (record {
        waits = λ r out. p;
        works = λ call is out. p;
        spent = λ none out z. p;
        asks = λ op n h is out held. k.asks (begun d) op n h p is out held;
        gives_back = λ u none out left is. k.gives_back (begun d) u p none out;
      })
