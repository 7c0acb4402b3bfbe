-- What replies carry that a call met are bytes, if the lines show bytes.
use Rattle.std.proofs.Common.{◌≡◌, ◌==◌, ℕ, zero, suc, Bool, true, false, not, nat_lt, nat_eq, List, [], ◌∷◌, ◌++◌, drop, length, fold, find, Option, Some, None, Result, Ok, Err, is_some, slice_get, slice_set, slice_range, refl, subst, if◌then◌else◌}
use Rattle.std.specs.Int.{w32, from_be_bytes}
use Rattle.osd_lists.specs.Blocks.{IsBytes, first_nonzero}
use Rattle.osd_lists.specs.declared.node.Node.{Node}
use Rattle.osd_lists.specs.declared.node.Node.TheVariants as node
use Rattle.layout_ops.specs.declared.envelope.Envelope.{Envelope}
use Rattle.layout_ops.specs.declared.envelope.Envelope.TheVariants as envelope
use Rattle.layout_ops.specs.Reading.{envelope_of}
use Rattle.osd_commands.specs.declared.commands.CommandErr.{CommandErr}
use Rattle.osd_commands.specs.declared.commands.CommandErr.TheVariants.{Short, Magic, BadAction, Length}
use Rattle.osd_commands.specs.Replies as replies
use Rattle.osd_commands.specs.Replies.{is_verdict, is_sized, action_at, verdict_at, unless_reserved, reply_at}
use Rattle.client_rules.specs.Envelopes.{in_envelope, by_envelope, by_reply, message_in}
use Rattle.client_rules.specs.History.{Input, Calls, Hears, TimesOut, Leaves, Resends}
use Rattle.client_rules.specs.Messages.{Message, Answers, Recalls, Replies, Taken, TakesAnswer, TakesReply, TakesRecall, Step, answer_taken, reply_taken, awaited_of, takes}
use Rattle.client_rules.specs.Replies.{answers}
use Rattle.client_rules.specs.Steps.{calls}
use Rattle.scenario_text.specs.declared.event.Event.{Event}
use Rattle.scenario_text.specs.declared.event.Event.TheVariants as event
use Rattle.scenario_text.specs.declared.event.Sender.TheVariants as sender
use Rattle.scenario_text.specs.declared.line.Outcome.TheVariants.{ReadOk}
use Rattle.scenario_text.specs.declared.line.Line.{Line}
use Rattle.scenario_text.specs.declared.line.Line.TheVariants as line
use Rattle.world_history.specs.ClientNames.{Client, Call, CallOp, CallErr, Held, Awaited, Answer, Reply, Request}
use Rattle.world_history.specs.declared.messages.Sent.{Sent}
use Rattle.world_history.specs.State.{ClientAt}
use Rattle.world_history.specs.Spelled.{node_of}
use Rattle.world_history.specs.Moves.{op_of}
use Rattle.world_history.specs.Reading.{arrived, left_out, changed_by, changed_at, sent_after_event, sent_after}
use Rattle.cause_law.specs.Met.{Met, since, with_answer, with_taken, with_timeout, with_silence, met_after}
use Rattle.cause_law.specs.ReadBytes.{CarryBytes}
use Rattle.cause_law.specs.ReadCalls.{call_input, only_for, event_input, read_input, sent_input, line_input, LastStep, after_input, after_line, CallSeen, sees_call, call_seen}
use Rattle.cause_law.specs.ReadClients.{is_client}
use Rattle.history_claims.specs.Carried.{IsCarried, AreCarried, MetBytesAt, RepliesCarryBytes}

-- ---- what is read in bytes

-- the bytes before a reply's payload, and the greatest action: constants that `osd_commands` keeps to itself
abbrev BLOCK : ℕ
BLOCK = 40

abbrev LAST_ACTION : ℕ
LAST_ACTION = 6

dropped_bytes : (n : ℕ) (bytes : List ℕ) → IsBytes bytes → IsBytes (drop n bytes)
dropped_bytes zero bytes b = b
dropped_bytes (suc n) [] b = b
dropped_bytes (suc n) (x ∷ bytes) b = dropped_bytes n bytes (λ i. b (suc i))

abbrev Carries : Reply → Type 0
Carries r = IsBytes r.payload

abbrev MayCarry : Option Message → Type 0
MayCarry (Some (Replies r)) = Carries r
MayCarry m = Unit {0}

abbrev ReadsOne : Result Reply CommandErr → Type 0
ReadsOne (Ok r) = Carries r
ReadsOne (Err e) = Unit {0}

reads_one : (bytes : List ℕ) → IsBytes bytes → ReadsOne (replies.reading bytes)
unfolding replies.reading reply_at
reads_one bytes b = short (nat_lt (length bytes) BLOCK)
  where
    whole : (x : Bool) → ReadsOne (if x then Ok (reply_at bytes) else Err (Length (length (reply_at bytes).payload)))
    whole true = dropped_bytes BLOCK bytes b
    whole false = tt

    reserved : (o : Option ℕ) → ReadsOne (unless_reserved bytes o)
    reserved None = whole (is_sized bytes (action_at bytes) (verdict_at bytes) (length (drop BLOCK bytes)))
    reserved (Some at) = tt

    judged : (x : Bool) → ReadsOne (if x then Err (BadAction (verdict_at bytes))
        else unless_reserved bytes (first_nonzero bytes 36 BLOCK))
    judged true = tt
    judged false = reserved (first_nonzero bytes 36 BLOCK)

    acts : (x : Bool) → ReadsOne (if x then Err (BadAction (action_at bytes))
        else if not (is_verdict (verdict_at bytes)) then Err (BadAction (verdict_at bytes))
        else unless_reserved bytes (first_nonzero bytes 36 BLOCK))
    acts true = tt
    acts false = judged (not (is_verdict (verdict_at bytes)))

    own_magic : (x : Bool) → ReadsOne (if x then Err Magic
        else if nat_lt LAST_ACTION (action_at bytes) then Err (BadAction (action_at bytes))
        else if not (is_verdict (verdict_at bytes)) then Err (BadAction (verdict_at bytes))
        else unless_reserved bytes (first_nonzero bytes 36 BLOCK))
    own_magic true = tt
    own_magic false = acts (nat_lt LAST_ACTION (action_at bytes))

    short : (x : Bool) → ReadsOne (if x then Err Short
        else if not (nat_eq (from_be_bytes w32 (slice_range bytes 0 4)) replies.magic) then Err Magic
        else if nat_lt LAST_ACTION (action_at bytes) then Err (BadAction (action_at bytes))
        else if not (is_verdict (verdict_at bytes)) then Err (BadAction (verdict_at bytes))
        else unless_reserved bytes (first_nonzero bytes 36 BLOCK))
    short true = tt
    short false = own_magic (not (nat_eq (from_be_bytes w32 (slice_range bytes 0 4)) replies.magic))

by_one : (r : Result Reply CommandErr) → ReadsOne r → MayCarry (by_reply r)
by_one (Ok r) p = p
by_one (Err e) p = tt

no_reply : (e : Envelope) → MayCarry (in_envelope e)
no_reply (envelope.Answer a) = tt
no_reply (envelope.Recall r) = tt
no_reply e = tt

enveloped : (bytes : List ℕ) → MayCarry (by_envelope (envelope_of bytes))
enveloped bytes = by (envelope_of bytes)
  where
    by : (r : _) → MayCarry (by_envelope r)
    by (Ok e) = no_reply e
    by (Err e) = tt

told_in : (from : Node) (bytes : List ℕ) → IsBytes bytes → MayCarry (message_in from bytes)
unfolding message_in
told_in (node.Drive d) bytes b = by_one (replies.reading bytes) (reads_one bytes b)
told_in node.Server bytes b = enveloped bytes
told_in (node.Client c) bytes b = tt

-- ---- what comes to a client

abbrev InputCarries : Option Input → Type 0
InputCarries (Some (Hears from (Replies r))) = Carries r
InputCarries i = Unit {0}

read_carries : (from : _) (m : Option Message) → MayCarry m → InputCarries (read_input from m)
read_carries from None p = tt
read_carries from (Some (Replies r)) p = p
read_carries from (Some (Answers a)) p = tt
read_carries from (Some (Recalls r)) p = tt

abbrev AllBytes : List Sent → Type 0
AllBytes ss = (n : ℕ) (m : Sent) → slice_get ss n ≡ Some m → IsBytes m.bytes

sent_carries : (c : ℕ) (a : ClientAt) (ss : List Sent) (o : Option Sent) → ((m : Sent) → o ≡ Some m → IsBytes m.bytes)
    → InputCarries (sent_input c a o)
sent_carries c a ss None b = tt
sent_carries c a ss (Some m) b = for_it (is_client c m.to)
  where
    awake : (x : Bool) → InputCarries (if x then None else read_input m.from (message_in (node_of m.from) m.bytes))
    awake true = tt
    awake false = read_carries m.from (message_in (node_of m.from) m.bytes) (told_in (node_of m.from) m.bytes (b m refl))

    for_it : (x : Bool) → InputCarries (if x
        then (if a.stopped then None else read_input m.from (message_in (node_of m.from) m.bytes)) else None)
    for_it true = awake a.stopped
    for_it false = tt

only_carries : (k c : ℕ) (i : Option Input) → InputCarries i → InputCarries (only_for k c i)
only_carries k c i p = by (k == c)
  where
    by : (b : Bool) → InputCarries (if b then i else None)
    by true = p
    by false = tt

call_carries : (op : CallOp) (r : Result Step CallErr) → InputCarries (call_input op r)
call_carries op (Ok s) = tt
call_carries op (Err e) = tt

event_carries : (c : ℕ) (a : ClientAt) (e : Event) → InputCarries (event_input c a e)
event_carries c a (event.Do k x) =
    only_carries k c (call_input (op_of x) (calls a.state (op_of x))) (call_carries (op_of x) (calls a.state (op_of x)))
event_carries c a (event.Call k x) =
    only_carries k c (call_input (op_of x) (calls a.state (op_of x))) (call_carries (op_of x) (calls a.state (op_of x)))
event_carries c a (event.Resend (sender.Client k)) = only_carries k c (Some Resends) tt
event_carries c a (event.Leave k) =
    only_carries k c (if is_some a.state.call then None else Some Leaves) (by (is_some a.state.call))
  where
    by : (b : Bool) → InputCarries (if b then None else Some Leaves)
    by true = tt
    by false = tt
event_carries c a e = tt

line_carries : (c : ℕ) (ss : List Sent) (l : Line) (a : ClientAt) → AllBytes ss → InputCarries (line_input c ss l a)
line_carries c ss (line.Event e) a b = event_carries c a e
line_carries c ss (line.Delivered n d) a b = sent_carries c a ss (slice_get ss n) (λ m is. b n m is)
line_carries c ss (line.TimedOut k j) a b = only_carries k c (Some (TimesOut j)) tt
line_carries c ss l a b = tt

-- ---- what a call has met

since_carries : (o : Option Call) (ms : List Met) → CarryBytes ms → CarryBytes (since o ms)
since_carries None ms p = tt
since_carries (Some x) ms p = p

answer_carries : (o : Option Request) (a : Answer) (ms : List Met) → CarryBytes ms → CarryBytes (with_answer o a ms)
answer_carries None a ms p = p
answer_carries (Some r) a ms p = p

abbrev TakenCarries : Option Taken → Type 0
TakenCarries (Some (TakesReply a r)) = Carries r
TakenCarries t = Unit {0}

taken_carries : (c : Client) (t : Option Taken) (ms : List Met) → TakenCarries t → CarryBytes ms → CarryBytes (with_taken c t ms)
taken_carries c None ms t p = p
taken_carries c (Some (TakesAnswer a)) ms t p = answer_carries c.outstanding a ms p
taken_carries c (Some (TakesReply a r)) ms t p = (t, p)
taken_carries c (Some (TakesRecall r)) ms t p = p

answer_taken_carries : (c : Client) (a : Answer) (o : Option Request) → TakenCarries (answer_taken c a o)
answer_taken_carries c a None = tt
answer_taken_carries c a (Some r) = by _
  where
    by : (b : Bool) → TakenCarries (if b then Some (TakesAnswer a) else None)
    by true = tt
    by false = tt

reply_taken_carries : (r : Reply) (o : Option Awaited) → Carries r → TakenCarries (reply_taken r o)
reply_taken_carries r None p = tt
reply_taken_carries r (Some a) p = p

takes_carries : (c : Client) (from : Node) (m : Message) → InputCarries (Some (Hears from m)) → TakenCarries (takes c from m)
unfolding takes
takes_carries c (node.Drive d) (Replies r) p = reply_taken_carries r (find (answers d r) (awaited_of c.call)) p
takes_carries c node.Server (Answers a) p = answer_taken_carries c a c.outstanding
takes_carries c node.Server (Recalls r) p = by (r.client == c.number)
  where
    by : (b : Bool) → TakenCarries (if b then Some (TakesRecall r) else None)
    by true = tt
    by false = tt
takes_carries c from m p = tt

timeout_carries : (k : ℕ) (o : Option Held) (xs : List Awaited) (ms : List Met) → CarryBytes ms
    → CarryBytes (with_timeout k o xs ms)
timeout_carries k (Some h) (a ∷ xs) ms p = p
timeout_carries k None xs ms p = p
timeout_carries k (Some h) [] ms p = p

silence_carries : (c : Client) (k : ℕ) (o : Option Call) (ms : List Met) → CarryBytes ms → CarryBytes (with_silence c k o ms)
silence_carries c k None ms p = p
silence_carries c k (Some x) ms p = timeout_carries k _ _ ms p

met_carries : (c : Client) (ms : List Met) (i : Input) → InputCarries (Some i) → CarryBytes ms → CarryBytes (met_after c ms i)
met_carries c ms (Calls op) i p = since_carries c.call ms p
met_carries c ms (Hears from m) i p =
    taken_carries c (takes c from m) (since c.call ms) (takes_carries c from m i) (since_carries c.call ms p)
met_carries c ms (TimesOut k) i p = silence_carries c k c.call (since c.call ms) (since_carries c.call ms p)
met_carries c ms Leaves i p = since_carries c.call ms p
met_carries c ms Resends i p = since_carries c.call ms p

input_carries : (x : Client) (t : LastStep) (o : Option Input) → InputCarries o → CarryBytes t.met
    → CarryBytes (after_input x t o).met
input_carries x t None i p = p
input_carries x t (Some y) i p = met_carries x t.met y i p

after_carries : (o : Option ClientAt) (input : ClientAt → Option Input) (t : LastStep)
    → ((a : ClientAt) → InputCarries (input a)) → CarryBytes t.met → CarryBytes (after_line o input t).met
after_carries None input t i p = p
after_carries (Some a) input t i p = input_carries a.state t (input a) (i a) p

-- ---- the messages

set_bytes : (ss : List Sent) (n : ℕ) (x : Sent) → IsBytes x.bytes → AllBytes ss → AllBytes (slice_set ss n x)
set_bytes [] n x p b k m is = b k m is
set_bytes (s ∷ ss) zero x p b zero m is =
    let same : x ≡ m = cc is in subst (λ (y : Sent). IsBytes y.bytes) same p
set_bytes (s ∷ ss) zero x p b (suc k) m is = b (suc k) m is
set_bytes (s ∷ ss) (suc n) x p b zero m is = b 0 m is
set_bytes (s ∷ ss) (suc n) x p b (suc k) m is = set_bytes ss n x p (λ j y e. b (suc j) y e) k m is

changed_bytes : (ss : List Sent) (n : ℕ) (f : Sent → Sent) → ((s : Sent) → IsBytes s.bytes → IsBytes (f s).bytes) → AllBytes ss
    → AllBytes (changed_at ss n f)
changed_bytes ss n f keeps b = by (slice_get ss n) refl
  where
    by : (o : Option Sent) → slice_get ss n ≡ o → AllBytes (changed_by ss n f o)
    by None is = b
    by (Some s) is = set_bytes ss n (f s) (keeps s (b n s is)) b

more_bytes : (ss : List Sent) (x : Sent) → IsBytes x.bytes → AllBytes ss → AllBytes (ss ++ x ∷ [])
more_bytes [] x p b zero m is = let same : x ≡ m = cc is in subst (λ (y : Sent). IsBytes y.bytes) same p
more_bytes [] x p b (suc k) m is = absurd (cc is)
more_bytes (s ∷ ss) x p b zero m is = b 0 m is
more_bytes (s ∷ ss) x p b (suc k) m is = more_bytes ss x p (λ j y e. b (suc j) y e) k m is

sent_bytes : (ss : List Sent) (l : Line) → IsCarried l → AllBytes ss → AllBytes (sent_after ss l)
sent_bytes ss (line.Event e) p b = by e
  where
    by : (x : Event) → AllBytes (sent_after_event ss x)
    by (event.DropMessage n) = changed_bytes ss n left_out (λ s y. y) b
    by x = b
sent_bytes ss (line.Message n from to bytes) p b = more_bytes ss _ p b
sent_bytes ss (line.Delivered n d) p b = changed_bytes ss n arrived (λ s y. y) b
sent_bytes ss l p b = b

-- ---- all lines

abbrev IsSeen : CallSeen → Type 0
IsSeen s = AllBytes s.seen.sent × CarryBytes s.last.met

one_more : (c : ℕ) (s : CallSeen) (l : Line) → IsCarried l → IsSeen s → IsSeen (sees_call c s l)
one_more c s l p x = (
  sent_bytes s.seen.sent l p x.0,
  after_carries s.seen.client (line_input c s.seen.sent l) s.last (λ a. line_carries c s.seen.sent l a x.0) x.1,
)

all_more : (c : ℕ) (s : CallSeen) (ls : List Line) → AreCarried ls → IsSeen s → IsSeen (fold (sees_call c) s ls)
all_more c s [] p x = x
all_more c s (l ∷ ls) p x = all_more c (sees_call c s l) ls p.1 (one_more c s l p.0 x)

front_carried : (xs ys : List Line) → AreCarried (xs ++ ys) → AreCarried xs
front_carried [] ys p = tt
front_carried (x ∷ xs) ys p = (p.0, front_carried xs ys p.1)

carries : (h : List Line) → AreCarried h → (before : List Line) (l : Line) (after : List Line) → h ≡ before ++ l ∷ after
    → (c : ℕ) → CarryBytes (call_seen c before).last.met
carries h p before l after is c =
    (all_more c _ before (front_carried before (l ∷ after) (subst AreCarried is p)) ((λ n m e. absurd (cc e)), tt)).1

pub replies_carry_bytes : RepliesCarryBytes
replies_carry_bytes h p before l after is = by l is
  where
    by : (x : Line) → h ≡ before ++ x ∷ after → MetBytesAt before x
    by (line.Ended c (ReadOk bytes)) e = carries h p before _ after e c
    by x e = tt
