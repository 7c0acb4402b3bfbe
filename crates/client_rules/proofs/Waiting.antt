-- A phase that waits for drives awaits something.
use Rattle.std.specs.Prelude.{ℕ, ◌==◌, is_some, Bool, true, false, if◌then◌else◌, List, [], ◌∷◌, Option, Some, None, Result, Ok, Err}
use Rattle.client_rules.specs.State.{Client, Call, CallOp, CallErr, Busy, BadRange, SlotSpent, Held, Due, Awaited, TimedOut, Need, First, Get, Commit, Report, Close, Phase, Starts, Needs, Waits, Reads, Probes, Gathers, Scatters, Outcome, WriteOk, Why, Turn, Goes, Ends, Forgets, Moved, Done, Request, Answer, Recall, Reply}
use Rattle.client_rules.specs.Turns.{turned}
use Rattle.osd_lists.specs.declared.node.Node.{Node}
use Rattle.layout_ops.specs.declared.statuses.TheConstants.{NFS4_OK}
use Rattle.client_rules.specs.Results.{status_of}
use Rattle.client_rules.specs.Requests.{grant_in}
use Rattle.client_rules.specs.Calls.{span_of}
use Rattle.client_rules.specs.Grants.{covers}
use Rattle.client_rules.specs.Answers.{busy, refused_with, not_granted, committed, on_commit, not_committed}
use Rattle.client_rules.specs.Messages.{Message, Step, still, finished, answered_get, commit_under, on_need, on_phase, on_call, no_match, obeys, recalled, reply_under, reply_call, hears, Taken, TakesAnswer, TakesReply, TakesRecall, takes, on_taken, by_taken}
use Rattle.client_rules.specs.Steps.{timeout_under, timeout_call, times_out, is_bad_range, is_spent, writes_nothing, starts, calls, all_due, leaves, new_client}
use Rattle.client_rules.specs.History.{Input, Calls, Hears, TimesOut, Leaves, Resends, unless_refused, step, state_after}
use Rattle.client_rules.specs.Laws.{Rests, RestsCall, IsResting, EachRestAwaitsSomething}
use Rattle.client_rules.specs.Replies.{replied, timed_out}
use Rattle.client_rules.specs.Going.{quiet, phased, over, with_held, by_turn, moved, begins, starts_with, starts_under, starts_at, starts_call, begun, requests, asks_under, returns, returns_due, progress_phase, progress_call, progress_free, progressed}
use Rattle.client_rules.proofs.WaitingMoves.{RestsTurn, RestsMoved, RestsDone, ends, forgets, needs, turned_rests, turn_of, either_turn, either, either_done, client_of, accounted_rests, replied_rests, timed_out_rests, begins_rests}

-- ---- the client

by_turn_rests : (d : Done) (op : CallOp) (t : Turn) → RestsTurn t → RestsDone (by_turn d op t)
unfolding RestsTurn RestsDone
by_turn_rests d op (Goes p) x = x
by_turn_rests d op (Ends o) x = tt
by_turn_rests d op (Forgets o) x = tt

moved_rests : (d : Done) (op : CallOp) (m : Moved) → RestsMoved m → RestsDone (moved d op m)
moved_rests d op m w = by_turn_rests (record (with_held d m.held) { commands = m.sent }) op m.turn (turn_of m w)

quiet_rests : (c : Client) → IsResting c → RestsDone (quiet c)
unfolding RestsDone
quiet_rests c w = w

phased_rests : (d : Done) (op : CallOp) (p : Phase) → Rests p → RestsDone (phased d op p)
unfolding RestsDone
phased_rests d op p w = w

over_rests : (d : Done) (o : Outcome) → RestsDone (over d o)
unfolding RestsDone
over_rests d o = tt

starts_with_rests : (d : Done) (op : CallOp) (n : Need) (o : Option Request) → RestsDone d → RestsDone (starts_with d op n o)
unfolding RestsDone
starts_with_rests d op n None w = tt
starts_with_rests d op n (Some r) w = w

starts_under_rests : (d : Done) (op : CallOp) (o : Option Held) → RestsDone d → RestsDone (starts_under d op o)
starts_under_rests d op None w = starts_with_rests d op (Get 0) _ w
starts_under_rests d op (Some h) w =
    either_done (covers h op) (moved d op (begins h op)) (starts_with d op First d.client.outstanding)
    (moved_rests d op (begins h op) (begins_rests h op)) (starts_with_rests d op First _ w)

starts_at_rests : (d : Done) (op : CallOp) (p : Phase) → RestsDone d → RestsDone (starts_at d op p)
starts_at_rests d op Starts w = starts_under_rests d op _ w
starts_at_rests d op (Needs n) w = w
starts_at_rests d op (Waits n) w = w
starts_at_rests d op (Reads io) w = w
starts_at_rests d op (Probes io) w = w
starts_at_rests d op (Gathers io) w = w
starts_at_rests d op (Scatters io queue) w = w

starts_call_rests : (d : Done) (o : Option Call) → RestsDone d → RestsDone (starts_call d o)
starts_call_rests d None w = w
starts_call_rests d (Some call) w = starts_at_rests d call.op call.phase w

begun_rests : (d : Done) → RestsDone d → RestsDone (begun d)
unfolding begun
begun_rests d w = starts_call_rests d d.client.call w

asks_under_rests : (d : Done) (op : CallOp) (n : Need) (o : Option Held) → RestsDone (asks_under d op n o)
unfolding RestsDone requests
asks_under_rests d op n None = tt
asks_under_rests d op n (Some h) = tt

returns_rests : (d : Done) (o : Option Due) → RestsDone d → RestsDone (returns d o)
unfolding RestsDone requests
returns_rests d None w = w
returns_rests d (Some u) w = w

returns_due_rests : (d : Done) → RestsDone d → RestsDone (returns_due d)
unfolding returns_due
returns_due_rests d w = either_done _ _ _ w (returns_rests d _ w)

progress_phase_rests : (d : Done) (op : CallOp) (p : Phase) → RestsDone d → RestsDone (progress_phase d op p)
progress_phase_rests d op (Needs n) w = asks_under_rests d op n _
progress_phase_rests d op Starts w = w
progress_phase_rests d op (Waits n) w = w
progress_phase_rests d op (Reads io) w = w
progress_phase_rests d op (Probes io) w = w
progress_phase_rests d op (Gathers io) w = w
progress_phase_rests d op (Scatters io queue) w = w

progress_call_rests : (d : Done) (o : Option Call) → RestsDone d → RestsDone (progress_call d o)
progress_call_rests d None w = returns_due_rests d w
progress_call_rests d (Some call) w = progress_phase_rests d call.op call.phase w

progress_free_rests : (d : Done) (o : Option Request) → RestsDone d → RestsDone (progress_free d o)
progress_free_rests d None w = progress_call_rests d d.client.call w
progress_free_rests d (Some r) w = w

finished_rests : (d : Done) → RestsDone d → IsResting (finished d).client
unfolding finished progressed
finished_rests d w = client_of _ (progress_free_rests (begun d) (begun d).client.outstanding (begun_rests d w))

-- ---- inputs

busy_rests : (tries : ℕ) (o : Outcome) → RestsTurn (busy tries o)
unfolding busy
busy_rests tries o = either_turn _ _ _ (needs _) (ends _)

refused_with_rests : (status detail tries : ℕ) → RestsTurn (refused_with status detail tries)
refused_with_rests status detail tries = search (either_turn, ends, busy_rests)

not_granted_rests : (a : Answer) (tries : ℕ) → RestsTurn (not_granted a tries)
unfolding not_granted
not_granted_rests a tries = refused_with_rests (status_of a.results) a.detail tries

answered_get_rests : (d : Done) (op : CallOp) (r : Result Held Why) → RestsDone (answered_get d op r)
unfolding RestsDone
answered_get_rests d op (Ok h) = tt
answered_get_rests d op (Err w) = tt

not_committed_rests : (status detail : ℕ) → RestsTurn (not_committed status detail)
unfolding not_committed
not_committed_rests status detail = either_turn _ _ _ (forgets _) (ends _)

on_commit_rests : (h : Held) (op : CallOp) (a : Answer) (timed : List TimedOut) → RestsMoved (on_commit h op a timed)
unfolding on_commit
on_commit_rests h op a timed =
    either (status_of a.results == NFS4_OK) (committed h op a timed) (turned h (not_committed (status_of a.results) a.detail))
    (turned_rests _ _ _ (accounted_rests op timed)) (turned_rests _ _ _ (not_committed_rests _ _))

commit_under_rests : (d : Done) (op : CallOp) (a : Answer) (timed : List TimedOut) (o : Option Held) → RestsDone d →
    RestsDone (commit_under d op a (Commit timed) o)
commit_under_rests d op a timed None w = w
commit_under_rests d op a timed (Some h) w = moved_rests d op (on_commit h op a timed) (on_commit_rests h op a timed)

on_need_rests : (d : Done) (op : CallOp) (n : Need) (a : Answer) → RestsDone d → RestsDone (on_need d op n a)
on_need_rests d op First a w = phased_rests d op Starts tt
on_need_rests d op (Get tries) a w =
    either_done _ _ _ (answered_get_rests d op _) (by_turn_rests d op _ (not_granted_rests a tries))
on_need_rests d op (Commit timed) a w = commit_under_rests d op a timed _ w
on_need_rests d op (Report timed) a w = over_rests d _
on_need_rests d op (Close outcome report) a w = over_rests d _

on_phase_rests : (d : Done) (op : CallOp) (p : Phase) (a : Answer) → RestsDone d → RestsDone (on_phase d op p a)
on_phase_rests d op (Waits n) a w = on_need_rests d op n a w
on_phase_rests d op Starts a w = w
on_phase_rests d op (Needs n) a w = w
on_phase_rests d op (Reads io) a w = w
on_phase_rests d op (Probes io) a w = w
on_phase_rests d op (Gathers io) a w = w
on_phase_rests d op (Scatters io queue) a w = w

on_call_rests : (d : Done) (o : Option Call) (a : Answer) → RestsDone d → RestsDone (on_call d o a)
on_call_rests d None a w = w
on_call_rests d (Some call) a w = on_phase_rests d call.op call.phase a w

no_match_rests : (c : Client) (r : Recall) → IsResting c → RestsDone (no_match c r)
unfolding RestsDone
no_match_rests c r w = w

obeys_rests : (c : Client) (r : Recall) → IsResting c → RestsDone (obeys c r)
unfolding RestsDone
obeys_rests c r w = w

recalled_rests : (c : Client) (r : Recall) (o : Option Held) → IsResting c → RestsDone (recalled c r o)
recalled_rests c r None w = no_match_rests c r w
recalled_rests c r (Some h) w =
    either_done (h.number == grant_in r.args.stateid) (obeys c r) (no_match c r) (obeys_rests c r w) (no_match_rests c r w)

reply_under_rests : (c : Client) (call : Call) (a : Awaited) (r : Reply) (o : Option Held) → Rests call.phase → IsResting c →
    RestsDone (reply_under c call a r o)
reply_under_rests c call a r (Some h) p w =
    moved_rests (quiet c) call.op (replied h call.op call.phase a r) (replied_rests h call.op call.phase a r p)
reply_under_rests c call a r None p w = quiet_rests c w

reply_call_rests : (c : Client) (a : Awaited) (r : Reply) (o : Option Call) → RestsCall o → IsResting c →
    RestsDone (reply_call c a r o)
reply_call_rests c a r None p w = quiet_rests c w
reply_call_rests c a r (Some call) p w = reply_under_rests c call a r _ p w

on_taken_rests : (c : Client) (t : Taken) → IsResting c → RestsDone (on_taken c t)
on_taken_rests c (TakesAnswer a) w =
    on_call_rests (quiet (record c { outstanding = None })) c.call a (quiet_rests (record c { outstanding = None }) w)
on_taken_rests c (TakesReply a r) w = reply_call_rests c a r c.call w w
on_taken_rests c (TakesRecall r) w = recalled_rests c r _ w

by_taken_rests : (c : Client) (t : Option Taken) → IsResting c → IsResting (by_taken c t).client
by_taken_rests c None w = w
by_taken_rests c (Some t) w = finished_rests (on_taken c t) (on_taken_rests c t w)

timeout_under_rests : (c : Client) (call : Call) (k : ℕ) (o : Option Held) (xs : List Awaited) → IsResting c →
    IsResting (timeout_under c call k o xs).client
timeout_under_rests c call k (Some h) (a ∷ xs) w =
    finished_rests _
    (moved_rests (quiet c) call.op (timed_out h call.op call.phase k a xs) (timed_out_rests h call.op call.phase k a xs))
timeout_under_rests c call k None xs w = w
timeout_under_rests c call k (Some h) [] w = w

timeout_call_rests : (c : Client) (k : ℕ) (o : Option Call) → IsResting c → IsResting (timeout_call c k o).client
timeout_call_rests c k None w = w
timeout_call_rests c k (Some call) w = timeout_under_rests c call k _ _ w

starts_rests : (c : Client) (op : CallOp) (b : Bool) → IsResting c →
    IsResting (if b then record (still c) { outcome = Some (WriteOk 0) } else finished
    (quiet (record c { call = Some (record { op = op; phase = Starts }) }))).client
starts_rests c op true w = w
starts_rests c op false w = finished_rests _ (quiet_rests (record c { call = Some (record { op = op; phase = Starts }) }) tt)

-- by the three refusals
refuses : (c : Client) (a b d : Bool) (x y z : CallErr) (s : Step) → IsResting c → IsResting s.client →
    IsResting (unless_refused c (if a then Err x else if b then Err y else if d then Err z else Ok s)).client
refuses c true b d x y z s v w = v
refuses c false true d x y z s v w = v
refuses c false false true x y z s v w = v
refuses c false false false x y z s v w = w

calls_rests : (c : Client) (op : CallOp) → IsResting c → IsResting (unless_refused c (calls c op)).client
unfolding calls
calls_rests c op w =
    refuses c (is_some c.call) (is_bad_range (span_of op)) (is_spent c.next) Busy BadRange SlotSpent (starts c op) w
    (starts_rests c op (writes_nothing op) w)

hears_rests : (c : Client) (from : Node) (m : Message) → IsResting c → IsResting (hears c from m).client
unfolding hears
hears_rests c from m w = by_taken_rests c (takes c from m) w

times_out_rests : (c : Client) (k : ℕ) → IsResting c → IsResting (times_out c k).client
unfolding times_out
times_out_rests c k w = timeout_call_rests c k c.call w

leaves_rests : (c : Client) → IsResting c → IsResting (leaves c).client
unfolding leaves
leaves_rests c w = finished_rests _ (quiet_rests (record c { due = all_due c.due c.held }) w)

-- ---- any step

step_rests : (c : Client) (i : Input) → IsResting c → IsResting (step c i).client
step_rests c (Calls op) w = calls_rests c op w
step_rests c (Hears from m) w = hears_rests c from m w
step_rests c (TimesOut k) w = times_out_rests c k w
step_rests c Leaves w = leaves_rests c w
step_rests c Resends w = w

all_rest : (c : Client) (is : List Input) → IsResting c → IsResting (state_after c is)
all_rest c [] w = w
all_rest c (i ∷ is) w = all_rest (step c i).client is (step_rests c i w)

pub each_rest_awaits_something : EachRestAwaitsSomething
each_rest_awaits_something =
    record { steps = step_rests; always = λ number sequence is. all_rest (new_client number sequence) is tt }
