-- A client sends a request only where none is outstanding.
use Rattle.std.proofs.Common.{◌≡◌, ◌⊎◌, ℕ, ◌==◌, Bool, true, false, List, [], ◌∷◌, ◌++◌, refl, sym, ap, ◌∙◌, inl, inr}
use Rattle.std.specs.Prelude.{if◌then◌else◌, map, is_some, Option, Some, None, Ok, Err}
use Rattle.layout_ops.specs.declared.args.Args.{Args}
use Rattle.exchange_law.specs.ClientState.{Client, Call, CallOp, CallErr, Busy, BadRange, SlotSpent, Held, Due, Awaited, Need, Phase, Starts, Needs, Waits, Outcome, WriteOk, Turn, Goes, Ends, Forgets, Moved, Done, AnswersRecall, Asks, Request, Answer, Recall, RecallAnswer, Reply}
use Rattle.client_rules.specs.Calls.{file_of, span_of}
use Rattle.client_rules.specs.Requests.{grant_in, get_args, args_of, return_args}
use Rattle.client_rules.specs.Replies.{replied, timed_out}
use Rattle.client_rules.specs.Answers.{not_granted, on_commit}
use Rattle.client_rules.specs.Going.{quiet, phased, over, with_held, by_turn, moved, begins, begun, request_of, requests, asks_under, returns, progressed}
use Rattle.client_rules.specs.Messages.{Step, still, to_drive, closed, finished, on_call, no_match, obeys, recalled, reply_under, reply_call, Taken, TakesAnswer, TakesReply, TakesRecall, takes, on_taken, by_taken, hears}
use Rattle.client_rules.specs.Steps.{timeout_under, timeout_call, times_out, is_bad_range, is_spent, writes_nothing, starts, calls, all_due, leaves}
use Rattle.client_rules.specs.History.{Calls, Hears, TimesOut, Leaves, Resends, unless_refused}
use Rattle.exchange_law.specs.Requests.{requests_in, left_by, IsAsked, OneRequest}
use Rattle.history_law.proofs.Turns.{each_begin, each_progress, each_answer}

-- no request was sent yet in this step
record IsQuiet (n : ℕ) (o : Option Request) (d : Done) : Type 0 where
  requests : d.requests ≡ []
  outstanding : d.client.outstanding ≡ o
  next : d.client.next ≡ n

either_quiet : (n : ℕ) (o : Option Request) (b : Bool) (d e : Done) → IsQuiet n o d → IsQuiet n o e →
    IsQuiet n o (if b then d else e)
either_quiet n o true d e x y = x
either_quiet n o false d e x y = y

turn_quiet : (n : ℕ) (o : Option Request) (d : Done) (op : CallOp) (t : Turn) → IsQuiet n o d → IsQuiet n o (by_turn d op t)
turn_quiet n o d op (Goes p) q = record { requests = q.requests; outstanding = q.outstanding; next = q.next }
turn_quiet n o d op (Ends u) q = record { requests = q.requests; outstanding = q.outstanding; next = q.next }
turn_quiet n o d op (Forgets u) q = record { requests = q.requests; outstanding = q.outstanding; next = q.next }

moved_quiet : (n : ℕ) (o : Option Request) (d : Done) (op : CallOp) (m : Moved) → IsQuiet n o d → IsQuiet n o (moved d op m)
moved_quiet n o d op m q =
    turn_quiet n o (record (with_held d m.held) { commands = m.sent }) op m.turn
    (record { requests = q.requests; outstanding = q.outstanding; next = q.next })

phased_quiet : (n : ℕ) (o : Option Request) (d : Done) (op : CallOp) (p : Phase) → IsQuiet n o d → IsQuiet n o (phased d op p)
phased_quiet n o d op p q = record { requests = q.requests; outstanding = q.outstanding; next = q.next }

over_quiet : (n : ℕ) (o : Option Request) (d : Done) (u : Outcome) → IsQuiet n o d → IsQuiet n o (over d u)
over_quiet n o d u q = record { requests = q.requests; outstanding = q.outstanding; next = q.next }

quiet_quiet : (c : Client) → IsQuiet c.next c.outstanding (quiet c)
quiet_quiet c = record { requests = refl; outstanding = refl; next = refl }

-- ---- a call begins

begun_quiet : (n : ℕ) (o : Option Request) (d : Done) → IsQuiet n o d → IsQuiet n o (begun d)
begun_quiet n o d q =
    each_begin d (IsQuiet n o) (record {
      stays = q;
      needs = λ op need is out first. phased_quiet n o d op (Needs need) q;
      begun = λ op h is held covered. moved_quiet n o d op (begins h op) q;
    })

-- ---- a request goes out

abbrev AskedBy : (n : ℕ) (o : Option Request) (d : Done) → Type 0
AskedBy n o d =
    IsQuiet n o d ⊎ ((o ≡ None) × (r : Request) × (d.requests ≡ r ∷ []) × (d.client.outstanding ≡ Some r) × (r.sequence ≡ n))

requests_asked : (n : ℕ) (o : Option Request) (d : Done) (file : ℕ) (a : Args) → o ≡ None → IsQuiet n o d →
    AskedBy n o (requests d file a)
unfolding requests
requests_asked n o d file a e q = inr (e, request_of d.client file a, rw q.requests refl, refl, q.next)

asks_under_asked : (n : ℕ) (o : Option Request) (d : Done) (op : CallOp) (need : Need) (h : Option Held) → o ≡ None →
    IsQuiet n o d → AskedBy n o (asks_under d op need h)
asks_under_asked n o d op need None e q =
    requests_asked n o (phased d op (Waits need)) (file_of op) (get_args op) e (phased_quiet n o d op (Waits need) q)
asks_under_asked n o d op need (Some h) e q =
    requests_asked n o (phased d op (Waits need)) (file_of op) (args_of h op need) e (phased_quiet n o d op (Waits need) q)

returns_asked : (n : ℕ) (o : Option Request) (d : Done) (u : Option Due) → o ≡ None → IsQuiet n o d → AskedBy n o (returns d u)
returns_asked n o d None e q = inl (record { requests = q.requests; outstanding = q.outstanding; next = q.next })
returns_asked n o d (Some u) e q =
    requests_asked n o _ u.file (return_args u.number []) e
    (record { requests = q.requests; outstanding = q.outstanding; next = q.next })

progressed_asked : (n : ℕ) (o : Option Request) (d : Done) → IsQuiet n o d → AskedBy n o (progressed d)
progressed_asked n o d q =
    each_progress d (AskedBy n o) (record {
      waits = λ r out. inl q;
      works = λ call is out. inl q;
      spent = λ none out left. inl q;
      asks = λ op need h is out held. asks_under_asked n o d op need h (sym q.outstanding ∙ out) q;
      gives_back = λ u none out left due. returns_asked n o d u (sym q.outstanding ∙ out) q;
    })

-- ---- what a step leaves

commands_ask : (cs : List Awaited) → requests_in (map to_drive cs) ≡ []
commands_ask [] = refl
commands_ask (c ∷ cs) = commands_ask cs

requests_ask : (qs : List Request) (cs : List Awaited) → requests_in (map Asks qs ++ map to_drive cs) ≡ qs
requests_ask [] cs = commands_ask cs
requests_ask (q ∷ qs) cs = ap (λ (rs : List Request). q ∷ rs) (requests_ask qs cs)

sends_ask : (rs : List RecallAnswer) (qs : List Request) (cs : List Awaited) →
    requests_in (map AnswersRecall rs ++ (map Asks qs ++ map to_drive cs)) ≡ qs
sends_ask [] qs cs = requests_ask qs cs
sends_ask (r ∷ rs) qs cs = sends_ask rs qs cs

abbrev StepAsks : (n : ℕ) (o : Option Request) (s : Step) → Type 0
StepAsks n o s = IsAsked n o s.client.outstanding (requests_in s.sends)

closed_asks : (n : ℕ) (o : Option Request) (d : Done) → AskedBy n o d → StepAsks n o (closed d)
closed_asks n o d (inl q) = inl (sends_ask d.recalls d.requests d.commands ∙ q.requests, q.outstanding)
closed_asks n o d (inr a) = inr (a.0, a.1, sends_ask d.recalls d.requests d.commands ∙ a.2, a.3, a.4)

finished_asks : (n : ℕ) (o : Option Request) (d : Done) → IsQuiet n o d → StepAsks n o (finished d)
unfolding finished
finished_asks n o d q = closed_asks n o (progressed (begun d)) (progressed_asked n o (begun d) (begun_quiet n o d q))

still_asks : (c : Client) → StepAsks c.next c.outstanding (still c)
still_asks c = inl (refl, refl)

-- ---- answers

answered_quiet : (n : ℕ) (o : Option Request) (d : Done) (a : Answer) → IsQuiet n o d →
    IsQuiet n o (on_call d d.client.call a)
answered_quiet n o d a q =
    each_answer d a (IsQuiet n o) (record {
      stays = q;
      returned = λ op is. phased_quiet n o d op Starts q;
      granted = λ op tries h is took. record { requests = q.requests; outstanding = q.outstanding; next = q.next };
      unusable = λ op tries w is took. over_quiet n o d _ q;
      refused = λ op tries is. turn_quiet n o d op (not_granted a tries) q;
      committed = λ op timed h is held. moved_quiet n o d op (on_commit h op a timed) q;
      reported = λ op timed is. over_quiet n o d _ q;
      closed = λ op u report is. over_quiet n o d u q;
    })

-- ---- recalls and replies

recalled_quiet : (c : Client) (r : Recall) (h : Option Held) → IsQuiet c.next c.outstanding (recalled c r h)
recalled_quiet c r None = record { requests = refl; outstanding = refl; next = refl }
recalled_quiet c r (Some h) =
    either_quiet c.next c.outstanding (h.number == grant_in r.args.stateid) (obeys c r) (no_match c r)
    (record { requests = refl; outstanding = refl; next = refl })
    (record { requests = refl; outstanding = refl; next = refl })

reply_under_quiet : (c : Client) (call : Call) (a : Awaited) (r : Reply) (h : Option Held) →
    IsQuiet c.next c.outstanding (reply_under c call a r h)
reply_under_quiet c call a r None = quiet_quiet c
reply_under_quiet c call a r (Some h) =
    moved_quiet c.next c.outstanding (quiet c) call.op (replied h call.op call.phase a r) (quiet_quiet c)

reply_call_quiet : (c : Client) (a : Awaited) (r : Reply) (call : Option Call) →
    IsQuiet c.next c.outstanding (reply_call c a r call)
reply_call_quiet c a r None = quiet_quiet c
reply_call_quiet c a r (Some call) = reply_under_quiet c call a r _

-- ---- inputs

taken_asks : (c : Client) (t : Option Taken) → StepAsks c.next (left_by t c.outstanding) (by_taken c t)
taken_asks c None = still_asks c
taken_asks c (Some (TakesAnswer a)) =
    finished_asks c.next None (on_taken c (TakesAnswer a))
    (answered_quiet c.next None (quiet (record c { outstanding = None })) a
    (quiet_quiet (record c { outstanding = None })))
taken_asks c (Some (TakesReply a r)) =
    finished_asks c.next c.outstanding (on_taken c (TakesReply a r)) (reply_call_quiet c a r c.call)
taken_asks c (Some (TakesRecall r)) = finished_asks c.next c.outstanding (on_taken c (TakesRecall r)) (recalled_quiet c r _)

timeout_under_asks : (c : Client) (call : Call) (k : ℕ) (h : Option Held) (xs : List Awaited) →
    StepAsks c.next c.outstanding (timeout_under c call k h xs)
timeout_under_asks c call k (Some h) (a ∷ xs) =
    finished_asks c.next c.outstanding _
    (moved_quiet c.next c.outstanding (quiet c) call.op (timed_out h call.op call.phase k a xs) (quiet_quiet c))
timeout_under_asks c call k None xs = still_asks c
timeout_under_asks c call k (Some h) [] = still_asks c

timeout_call_asks : (c : Client) (k : ℕ) (call : Option Call) → StepAsks c.next c.outstanding (timeout_call c k call)
timeout_call_asks c k None = still_asks c
timeout_call_asks c k (Some call) = timeout_under_asks c call k _ _

starts_asks : (c : Client) (op : CallOp) (b : Bool) →
    StepAsks c.next c.outstanding
    (if b then record (still c) { outcome = Some (WriteOk 0) } else finished
    (quiet (record c { call = Some (record { op = op; phase = Starts }) })))
starts_asks c op true = still_asks c
starts_asks c op false =
    finished_asks c.next c.outstanding _ (quiet_quiet (record c { call = Some (record { op = op; phase = Starts }) }))

refuses : (c : Client) (a b d : Bool) (x y z : CallErr) (s : Step) → StepAsks c.next c.outstanding s →
    StepAsks c.next c.outstanding (unless_refused c (if a then Err x else if b then Err y else if d then Err z else Ok s))
refuses c true b d x y z s w = still_asks c
refuses c false true d x y z s w = still_asks c
refuses c false false true x y z s w = still_asks c
refuses c false false false x y z s w = w

calls_asks : (c : Client) (op : CallOp) → StepAsks c.next c.outstanding (unless_refused c (calls c op))
unfolding calls
calls_asks c op =
    refuses c (is_some c.call) (is_bad_range (span_of op)) (is_spent c.next) Busy BadRange SlotSpent (starts c op)
    (starts_asks c op (writes_nothing op))

pub one_request : OneRequest
unfolding hears times_out leaves
one_request c (Calls op) = calls_asks c op
one_request c (Hears from m) = taken_asks c (takes c from m)
one_request c (TimesOut k) = timeout_call_asks c k c.call
one_request c Leaves = finished_asks c.next c.outstanding _ (quiet_quiet (record c { due = all_due c.due c.held }))
one_request c Resends = inl (refl, refl)
