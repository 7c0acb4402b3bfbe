-- Whatever comes to a client, its nonces rise in their grants.
use Rattle.std.proofs.Common.{◌≡◌, ◌<◌, ℕ, ◌+◌, ◌==◌, Bool, true, false, List, [], ◌∷◌, ◌++◌, length, refl, sym, ap, subst, ◌∙◌, arith}
use Rattle.std.specs.Prelude.{if◌then◌else◌, map, is_some, Option, Some, None, Ok, Err}
use Rattle.std.proofs.lemmas.List.{append-nil, append_assoc, length-append, length-map}
use Rattle.layout_ops.specs.declared.args.Args.{Args}
use Rattle.layout_ops.specs.declared.results.LayoutGetOk.{LayoutGetOk}
use Rattle.client_rules.specs.declared.limits.TheConstants.{NONCES}
use Rattle.exchange_law.specs.ClientState.{Client, Call, CallOp, CallErr, Busy, BadRange, SlotSpent, Held, Due, Awaited, Need, Phase, Starts, Needs, Waits, Outcome, WriteOk, Turn, Goes, Ends, Forgets, Moved, Done, AnswersRecall, Asks, Request, Answer, Recall, RecallAnswer, Reply}
use Rattle.client_rules.specs.Calls.{file_of, span_of}
use Rattle.client_rules.specs.Grants.{held_of, put_held}
use Rattle.client_rules.specs.Requests.{grant_in, get_args, args_of, return_args}
use Rattle.client_rules.specs.Results.{layouts_in}
use Rattle.client_rules.specs.Replies.{replied, timed_out}
use Rattle.client_rules.specs.Answers.{not_granted, on_commit}
use Rattle.client_rules.specs.Going.{quiet, phased, over, with_held, by_turn, moved, begins, begun, requests, asks_under, returns, progressed}
use Rattle.client_rules.specs.Messages.{Step, still, to_drive, sends_of, closed, finished, on_call, no_match, obeys, recalled, reply_under, reply_call, Taken, TakesAnswer, TakesReply, TakesRecall, takes, on_taken, by_taken, hears}
use Rattle.client_rules.specs.Steps.{timeout_under, timeout_call, times_out, is_bad_range, is_spent, writes_nothing, starts, calls, all_due, leaves, new_client}
use Rattle.client_rules.specs.History.{Input, Calls, Hears, TimesOut, Leaves, Resends, unless_refused, step}
use Rattle.client_rules.specs.Laws.{nonce_of, IsNumbered}
use Rattle.client_rules.proofs.Numbering.{nonces_rise}
use Rattle.client_rules.proofs.HeldGrants.{held_file}
use Rattle.exchange_law.specs.ClientNonces.{nonces_in, nonces_at, nonces_by, given, granted, grants_at, grants_by, AllDiffer, RiseInGrants, IsBounded, NoncesDiffer}
use Rattle.exchange_law.proofs.Rising.{last_is_new, differ_before, rising_differ}
use Rattle.exchange_law.proofs.Kept.{FairPhase, FairTurn, IsKept, replied_kept, timed_out_kept, begins_kept, on_commit_kept}
use Rattle.exchange_law.proofs.ClientGiven.{IsGiven, taken_given}
use Rattle.exchange_law.proofs.ClientKeeping.{IsKeeping, without_keeping, after_keeping, more_keeping, given_keeping, sent_keeping}
use Rattle.exchange_law.proofs.LaneGoing.{turn_still, FairCall, call_still}
use Rattle.history_law.specs.Turns.{IsBeginning, FinishCases}
use Rattle.history_law.proofs.Turns.{each_answer, each_finish}

-- ---- a client in the middle of a step

-- all nonces, with those of this step
abbrev all_of : List ℕ → Done → List ℕ
all_of xs d = xs ++ map nonce_of d.commands

record IsCounting (before xs : List ℕ) (d : Done) : Type 0 where
  holds : length (all_of xs d) < NONCES → IsKeeping d.client.held before (all_of xs d)
  fair : FairCall d.client.call d.commands

either_done : (before xs : List ℕ) (b : Bool) (d e : Done) → IsCounting before xs d → IsCounting before xs e →
    IsCounting before xs (if b then d else e)
either_done before xs true d e x y = x
either_done before xs false d e x y = y

quiet_counts : (before xs : List ℕ) (c : Client) → (length xs < NONCES → IsKeeping c.held before xs) →
    IsCounting before xs (quiet c)
quiet_counts before xs c k = record { holds = λ b. rw (append-nil xs) (k (rw (append-nil xs) at b)); fair = call_still c.call }

more_counts : (before more xs : List ℕ) (d : Done) → IsCounting before xs d → IsCounting (before ++ more) xs d
more_counts before more xs d k =
    record { holds = λ b. more_keeping d.client.held before more (all_of xs d) (k.holds b); fair = k.fair }

-- before anything was sent
plain : (before xs : List ℕ) (d : Done) → d.commands ≡ [] → IsCounting before xs d → length xs < NONCES →
    IsKeeping d.client.held before xs
plain before xs d e k b =
    let same : all_of xs d ≡ xs = rw e (append-nil xs) in
    rw same at (k.holds (rw same b))

phased_counts : (before xs : List ℕ) (d : Done) (op : CallOp) (p : Phase) → FairPhase p d.commands → IsCounting before xs d →
    IsCounting before xs (phased d op p)
phased_counts before xs d op p f k = record { holds = k.holds; fair = f }

over_counts : (before xs : List ℕ) (d : Done) (o : Outcome) → IsCounting before xs d → IsCounting before xs (over d o)
over_counts before xs d o k = record { holds = k.holds; fair = tt }

turn_counts : (before xs : List ℕ) (d : Done) (op : CallOp) (t : Turn) → FairTurn t d.commands →
    (length (all_of xs d) < NONCES → IsKeeping d.client.held before (all_of xs d)) → IsCounting before xs (by_turn d op t)
turn_counts before xs d op (Goes p) f k = record { holds = k; fair = f }
turn_counts before xs d op (Ends o) f k = record { holds = k; fair = tt }
turn_counts before xs d op (Forgets o) f k =
    record { holds = λ b. without_keeping d.client.held (file_of op) before (all_of xs d) (k b); fair = tt }

-- what a call does with the drives
sent_counts : (before xs : List ℕ) (hs : List Held) (f : ℕ) (h : Held) (m : Moved) → held_of hs f ≡ Some h → IsNumbered h m →
    IsKept h m → (length xs < NONCES → IsKeeping hs before xs) →
    length (xs ++ map nonce_of m.sent) < NONCES → IsKeeping (put_held hs m.held) before (xs ++ map nonce_of m.sent)
sent_counts before xs hs f h m e n kept k b =
    let sum : length (xs ++ map nonce_of m.sent) ≡ length xs + length m.sent =
    length-append xs (map nonce_of m.sent) ∙ ap (λ (z : ℕ). length xs + z) (length-map m.sent nonce_of) in
    let there : m.held.file ≡ f = kept.file ∙ held_file hs f h e in
    rw n.nonces (sent_keeping hs before xs f h m.held (length m.sent) e there (record { number = n.same; count = n.counted })
    (omega (arith, b, sum)) (k (omega (arith, b, sum))))

moved_counts : (before xs : List ℕ) (d : Done) (op : CallOp) (h : Held) (m : Moved) → d.commands ≡ [] →
    held_of d.client.held (file_of op) ≡ Some h → IsNumbered h m → IsKept h m → IsCounting before xs d →
    IsCounting before xs (moved d op m)
moved_counts before xs d op h m q e n kept k =
    turn_counts before xs (record (with_held d m.held) { commands = m.sent }) op m.turn kept.fair
    (λ b. sent_counts before xs d.client.held (file_of op) h m e n kept (plain before xs d q k) b)

-- ---- what follows in a step

requests_counts : (before xs : List ℕ) (d : Done) (file : ℕ) (a : Args) → IsCounting before xs d →
    IsCounting before xs (requests d file a)
unfolding requests
requests_counts before xs d file a k =
    record { holds = λ b. after_keeping d.client.held file a before (all_of xs d) (k.holds b); fair = k.fair }

asks_under_counts : (before xs : List ℕ) (d : Done) (op : CallOp) (n : Need) (o : Option Held) → IsCounting before xs d →
    IsCounting before xs (asks_under d op n o)
asks_under_counts before xs d op n None k =
    requests_counts before xs (phased d op (Waits n)) (file_of op) (get_args op) (phased_counts before xs d op (Waits n) tt k)
asks_under_counts before xs d op n (Some h) k =
    requests_counts before xs (phased d op (Waits n)) (file_of op) (args_of h op n) (phased_counts before xs d op (Waits n) tt k)

returns_counts : (before xs : List ℕ) (d : Done) (o : Option Due) → IsCounting before xs d → IsCounting before xs (returns d o)
returns_counts before xs d None k = record { holds = k.holds; fair = k.fair }
returns_counts before xs d (Some u) k =
    requests_counts before xs _ u.file (return_args u.number []) (record { holds = k.holds; fair = k.fair })

-- a call that hasn't begun has sent nothing
none_sent : (before xs : List ℕ) (d : Done) (op : CallOp) → IsCounting before xs d → IsBeginning d.client op → d.commands ≡ []
none_sent before xs d op k is = subst (λ (o : Option Call). FairCall o d.commands) is k.fair

kept : (before xs : List ℕ) → FinishCases (IsCounting before xs)
kept before xs = record {
  needs = λ d op n k is out first. phased_counts before xs d op (Needs n) tt k;
  begun = λ d op h k is held covered.
      moved_counts before xs d op h (begins h op) (none_sent before xs d op k is) held (nonces_rise.begun h op)
      (begins_kept h op) k;
  asks = λ d op n h k is out held. asks_under_counts before xs d op n h k;
  gives_back = λ d u k none out. returns_counts before xs d u k;
}

-- ---- what a step leaves

-- the commands stand behind the answer to a recall and the request
nonces_driven : (cs : List Awaited) → nonces_in (map to_drive cs) ≡ map nonce_of cs
nonces_driven [] = refl
nonces_driven (c ∷ cs) = ap (λ (ns : List ℕ). c.command.nonce ∷ ns) (nonces_driven cs)

nonces_asked : (qs : List Request) (cs : List Awaited) → nonces_in (map Asks qs ++ map to_drive cs) ≡ map nonce_of cs
nonces_asked [] cs = nonces_driven cs
nonces_asked (q ∷ qs) cs = nonces_asked qs cs

nonces_sent : (rs : List RecallAnswer) (qs : List Request) (cs : List Awaited) →
    nonces_in (map AnswersRecall rs ++ (map Asks qs ++ map to_drive cs)) ≡ map nonce_of cs
nonces_sent [] qs cs = nonces_asked qs cs
nonces_sent (r ∷ rs) qs cs = nonces_sent rs qs cs

abbrev AreKept : List ℕ → List ℕ → Step → Type 0
AreKept before xs s = length (xs ++ nonces_in s.sends) < NONCES → IsKeeping s.client.held before (xs ++ nonces_in s.sends)

closed_counts : (before xs : List ℕ) (d : Done) → IsCounting before xs d → AreKept before xs (closed d)
closed_counts before xs d k b =
    let same : nonces_in (sends_of d) ≡ map nonce_of d.commands = nonces_sent d.recalls d.requests d.commands in
    rw same (k.holds (rw same at b))

finished_counts : (before xs : List ℕ) (d : Done) → IsCounting before xs d → AreKept before xs (finished d)
unfolding finished
finished_counts before xs d k =
    closed_counts before xs (progressed (begun d)) (each_finish (IsCounting before xs) (kept before xs) d k)

still_counts : (before xs : List ℕ) (c : Client) → (length xs < NONCES → IsKeeping c.held before xs) → AreKept before xs (still c)
still_counts before xs c k b = rw (append-nil xs) (k (rw (append-nil xs) at b))

-- ---- answers

not_granted_counts : (before xs : List ℕ) (d : Done) (op : CallOp) (a : Answer) (tries : ℕ) → d.commands ≡ [] →
    IsCounting before xs d → IsCounting before xs (by_turn d op (not_granted a tries))
not_granted_counts before xs d op a tries q k =
    turn_counts before xs d op (not_granted a tries) (rw q (turn_still (not_granted a tries))) k.holds

-- the grant is new
given_counts : (before xs : List ℕ) (d : Done) (op : CallOp) (o : Option LayoutGetOk) (h : Held) → d.commands ≡ [] →
    AllDiffer (before ++ given o) → IsGiven o h → IsCounting before xs d →
    IsCounting (before ++ given o) xs (phased (with_held d h) op Starts)
given_counts before xs d op o h q differ g k = record {
  holds =
      λ b. rw g.given (given_keeping d.client.held before (all_of xs d) (grant_in g.ok.stateid) h
      (λ x i. last_is_new before x (grant_in g.ok.stateid) (rw g.given at differ) i) g.fresh (k.holds b));
  fair = q;
}

answered_counts : (before xs : List ℕ) (d : Done) (a : Answer) → d.commands ≡ [] →
    AllDiffer (before ++ given (layouts_in a.results)) → IsCounting before xs d →
    IsCounting (before ++ given (layouts_in a.results)) xs (on_call d d.client.call a)
answered_counts before xs d a q differ k =
    let all : List ℕ = before ++ given (layouts_in a.results) in
    let more : IsCounting all xs d = more_counts before (given (layouts_in a.results)) xs d k in
    each_answer d a (IsCounting all xs) (record {
      stays = more;
      returned = λ op is. phased_counts all xs d op Starts q more;
      granted = λ op tries h is took.
          given_counts before xs d op (layouts_in a.results) h q differ (taken_given a op h took) k;
      unusable = λ op tries w is took. over_counts all xs d _ more;
      refused = λ op tries is. not_granted_counts all xs d op a tries q more;
      committed = λ op timed h is held.
          moved_counts all xs d op h (on_commit h op a timed) q held (nonces_rise.committed h op a timed)
          (on_commit_kept h op a timed) more;
      reported = λ op timed is. over_counts all xs d _ more;
      closed = λ op o report is. over_counts all xs d o more;
    })

-- ---- recalls and replies

recalled_counts : (before xs : List ℕ) (c : Client) (r : Recall) (o : Option Held) →
    (length xs < NONCES → IsKeeping c.held before xs) → IsCounting before xs (recalled c r o)
recalled_counts before xs c r None k = let q = quiet_counts before xs c k in record { holds = q.holds; fair = q.fair }
recalled_counts before xs c r (Some h) k =
    let q = quiet_counts before xs c k in
    either_done before xs (h.number == grant_in r.args.stateid) (obeys c r) (no_match c r)
    (record { holds = q.holds; fair = q.fair }) (record { holds = q.holds; fair = q.fair })

reply_under_counts : (before xs : List ℕ) (c : Client) (call : Call) (a : Awaited) (r : Reply) (o : Option Held) →
    held_of c.held (file_of call.op) ≡ o → (length xs < NONCES → IsKeeping c.held before xs) →
    IsCounting before xs (reply_under c call a r o)
reply_under_counts before xs c call a r None e k = quiet_counts before xs c k
reply_under_counts before xs c call a r (Some h) e k =
    moved_counts before xs (quiet c) call.op h (replied h call.op call.phase a r) refl e
    (nonces_rise.replied h call.op call.phase a r) (replied_kept h call.op call.phase a r) (quiet_counts before xs c k)

reply_call_counts : (before xs : List ℕ) (c : Client) (a : Awaited) (r : Reply) (o : Option Call) →
    (length xs < NONCES → IsKeeping c.held before xs) → IsCounting before xs (reply_call c a r o)
reply_call_counts before xs c a r None k = quiet_counts before xs c k
reply_call_counts before xs c a r (Some call) k = reply_under_counts before xs c call a r _ refl k

-- ---- inputs

-- no grant is given
none_more : (before xs : List ℕ) (hs : List Held) → (length xs < NONCES → IsKeeping hs before xs) →
    (length xs < NONCES → IsKeeping hs (before ++ []) xs)
none_more before xs hs k b = rw (append-nil before) (k b)

by_taken_counts : (before xs : List ℕ) (c : Client) (t : Option Taken) → AllDiffer (before ++ granted t) →
    (length xs < NONCES → IsKeeping c.held before xs) → AreKept (before ++ granted t) xs (by_taken c t)
by_taken_counts before xs c None differ k = still_counts _ xs c (none_more before xs c.held k)
by_taken_counts before xs c (Some (TakesAnswer a)) differ k =
    finished_counts _ xs (on_taken c (TakesAnswer a))
    (answered_counts before xs (quiet (record c { outstanding = None })) a refl differ
    (quiet_counts before xs (record c { outstanding = None }) k))
by_taken_counts before xs c (Some (TakesReply a r)) differ k =
    finished_counts _ xs (on_taken c (TakesReply a r)) (reply_call_counts _ xs c a r c.call (none_more before xs c.held k))
by_taken_counts before xs c (Some (TakesRecall r)) differ k =
    finished_counts _ xs (on_taken c (TakesRecall r)) (recalled_counts _ xs c r _ (none_more before xs c.held k))

timeout_under_counts : (before xs : List ℕ) (c : Client) (call : Call) (k : ℕ) (o : Option Held) (ys : List Awaited) →
    held_of c.held (file_of call.op) ≡ o → (length xs < NONCES → IsKeeping c.held before xs) →
    AreKept before xs (timeout_under c call k o ys)
timeout_under_counts before xs c call k (Some h) (a ∷ ys) e x =
    finished_counts before xs _ (moved_counts before xs (quiet c) call.op h (timed_out h call.op call.phase k a ys) refl e
    (nonces_rise.timed h call.op call.phase k a ys) (timed_out_kept h call.op call.phase k a ys) (quiet_counts before xs c x))
timeout_under_counts before xs c call k None ys e x = still_counts before xs c x
timeout_under_counts before xs c call k (Some h) [] e x = still_counts before xs c x

timeout_call_counts : (before xs : List ℕ) (c : Client) (k : ℕ) (o : Option Call) →
    (length xs < NONCES → IsKeeping c.held before xs) → AreKept before xs (timeout_call c k o)
timeout_call_counts before xs c k None x = still_counts before xs c x
timeout_call_counts before xs c k (Some call) x = timeout_under_counts before xs c call k _ _ refl x

starts_counts : (before xs : List ℕ) (c : Client) (op : CallOp) (b : Bool) → (length xs < NONCES → IsKeeping c.held before xs) →
    AreKept before xs
    (if b then record (still c) { outcome = Some (WriteOk 0) } else finished
    (quiet (record c { call = Some (record { op = op; phase = Starts }) })))
starts_counts before xs c op true x = still_counts before xs c x
starts_counts before xs c op false x =
    finished_counts before xs _ (quiet_counts before xs (record c { call = Some (record { op = op; phase = Starts }) }) x)

refuses : (before xs : List ℕ) (c : Client) (a b d : Bool) (x y z : CallErr) (s : Step) → AreKept before xs (still c) →
    AreKept before xs s →
    AreKept before xs (unless_refused c (if a then Err x else if b then Err y else if d then Err z else Ok s))
refuses before xs c true b d x y z s v w = v
refuses before xs c false true d x y z s v w = v
refuses before xs c false false true x y z s v w = v
refuses before xs c false false false x y z s v w = w

calls_counts : (before xs : List ℕ) (c : Client) (op : CallOp) → (length xs < NONCES → IsKeeping c.held before xs) →
    AreKept before xs (unless_refused c (calls c op))
unfolding calls
calls_counts before xs c op x =
    refuses before xs c (is_some c.call) (is_bad_range (span_of op)) (is_spent c.next) Busy BadRange SlotSpent (starts c op)
    (still_counts before xs c x) (starts_counts before xs c op (writes_nothing op) x)

-- ---- any step

-- what a step leaves once its grants are given and its commands sent
abbrev pub StepKept : List ℕ → List ℕ → Client → Input → Type 0
StepKept before xs c i =
    length (xs ++ nonces_at c i) < NONCES → IsKeeping (step c i).client.held (before ++ grants_at c i) (xs ++ nonces_at c i)

pub step_counts : (before xs : List ℕ) (c : Client) (i : Input) → AllDiffer (before ++ grants_at c i) →
    (length xs < NONCES → IsKeeping c.held before xs) → StepKept before xs c i
unfolding hears times_out leaves
step_counts before xs c (Calls op) differ k = calls_counts (before ++ []) xs c op (none_more before xs c.held k)
step_counts before xs c (Hears from m) differ k = by_taken_counts before xs c (takes c from m) differ k
step_counts before xs c (TimesOut n) differ k = timeout_call_counts (before ++ []) xs c n c.call (none_more before xs c.held k)
step_counts before xs c Leaves differ k =
    finished_counts (before ++ []) xs _
    (quiet_counts (before ++ []) xs (record c { due = all_due c.due c.held }) (none_more before xs c.held k))
step_counts before xs c Resends differ k = λ b. rw (append-nil before, append-nil xs) (k (rw (append-nil xs) at b))

shorter : (xs ys : List ℕ) → length (xs ++ ys) < NONCES → length xs < NONCES
shorter xs ys b = omega (arith, b, length-append xs ys)

all_rise : (c : Client) (is : List Input) (before xs : List ℕ) → AllDiffer (before ++ grants_by c is) →
    length (xs ++ nonces_by c is) < NONCES → (length xs < NONCES → IsKeeping c.held before xs) →
    RiseInGrants (xs ++ nonces_by c is)
all_rise c [] before xs differ b k = rw (append-nil xs) (k (shorter xs [] b)).rises
all_rise c (i ∷ is) before xs differ b k =
    let grants : (before ++ grants_at c i) ++ grants_by (step c i).client
    is ≡ before ++ (grants_at c i ++ grants_by (step c i).client is) =
    append_assoc before (grants_at c i) (grants_by (step c i).client is) in
    let nonces : (xs ++ nonces_at c i) ++ nonces_by (step c i).client
    is ≡ xs ++ (nonces_at c i ++ nonces_by (step c i).client is) =
    append_assoc xs (nonces_at c i) (nonces_by (step c i).client is) in
    let apart : AllDiffer ((before ++ grants_at c i) ++ grants_by (step c i).client is) = rw grants differ in
    rw (sym nonces) (all_rise (step c i).client is (before ++ grants_at c i) (xs ++ nonces_at c i) apart (rw nonces b)
    (step_counts before xs c i (differ_before (before ++ grants_at c i) (grants_by (step c i).client is) apart) k))

pub new_keeping : IsKeeping [] [] []
unfolding held_of
new_keeping = record { rises = tt; known = tt; under = λ f h e. absurd (cc e); apart = λ f g h k e d s. absurd (cc e) }

rise : (number sequence : ℕ) (is : List Input) → IsBounded (new_client number sequence) is →
    RiseInGrants (nonces_by (new_client number sequence) is)
rise number sequence is b = all_rise (new_client number sequence) is [] [] b.grants b.commands (λ l. new_keeping)

pub nonces_differ : NoncesDiffer
nonces_differ =
    record {
      rise = rise;
      differ = λ number sequence is b. rising_differ (nonces_by (new_client number sequence) is) (rise number sequence is b);
    }
