-- A pending call that awaits nothing of a drive waits for an answer of the server.
use Rattle.std.proofs.Common.{◌≡◌, ◌==◌, ◌+◌, ℕ, Bool, true, false, nat_lt, List, [], ◌∷◌, find, Option, Some, None, Result, Ok, Err, refl, sym, subst, ◌∙◌, if◌then◌else◌}
use Rattle.layout_ops.specs.declared.messages.Answer.{Answer}
use Rattle.layout_ops.specs.declared.statuses.TheConstants.{NFS4_OK, NFS4ERR_NOENT, NFS4ERR_BADLAYOUT, NFS4ERR_LAYOUTTRYLATER, NFS4ERR_RECALLCONFLICT, NFS4ERR_LAYOUTUNAVAILABLE}
use Rattle.client_rules.specs.declared.limits.TheConstants.{MAX_TRIES}
use Rattle.client_rules.specs.Answers.{busy, refused_with, not_granted, not_committed, committed, on_commit}
use Rattle.client_rules.specs.Calls.{file_of}
use Rattle.client_rules.specs.Commands.{of_component}
use Rattle.client_rules.specs.Going.{quiet, moved, with_held, by_turn, begins, starts_with, starts_under, starts_at, starts_call, begun, request_of, requests, asks_under, is_held, due_behind, returns, returns_due, progress_phase, progress_call, progress_free, progressed}
use Rattle.client_rules.specs.Grants.{covers, held_of}
use Rattle.client_rules.specs.History.{Input, step}
use Rattle.client_rules.specs.Io.{awaited_in}
use Rattle.client_rules.specs.Messages.{Step, finished, answered_get, commit_under, on_need, on_phase, on_call, obeys, no_match}
use Rattle.client_rules.specs.Layouts.{taken}
use Rattle.client_rules.specs.Replies.{answers, replied, timed_out}
use Rattle.client_rules.specs.Requests.{return_args}
use Rattle.client_rules.specs.Results.{status_of}
use Rattle.client_rules.specs.Steps.{all_due}
use Rattle.client_rules.specs.Turns.{turned}
use Rattle.client_rules.specs.Writes.{accounted}
use Rattle.world_history.specs.ClientNames.{Client, CallOp, Call, Held, Due, Awaited, TimedOut, Need, First, Get, Commit, Report, Close, Phase, Starts, Needs, Waits, Reads, Probes, Gathers, Scatters, Outcome, HeldBy, Fencing, Why, Turn, Goes, Ends, Forgets, Moved, Done, Request}
use Rattle.history_law.specs.Turns.{with_start}
use Rattle.history_law.proofs.Turns.{each_turn}
use Rattle.exchange_law.proofs.Few.{IsDriving, IsLate, FewTurn, turn_few, begins_few, replied_few, timed_out_few, accounted_few}

-- ---- a client between steps

abbrev pub Has : Option Request → Type 0
Has None = ⊥
Has (Some r) = Unit {0}

-- A call that waits, or that hasn't begun, does so since a request is outstanding. (Of a commit that is so only under a grant.)
abbrev pub PhaseAwaits : Option Request → Phase → Type 0
PhaseAwaits o Starts = Has o
PhaseAwaits o (Needs n) = Has o
PhaseAwaits o (Waits (Commit timed)) = Unit {0}
PhaseAwaits o (Waits n) = Has o
PhaseAwaits o p = Unit {0}

abbrev pub CallAwaits : Option Request → Option Call → Type 0
CallAwaits o None = Unit {0}
CallAwaits o (Some call) = PhaseAwaits o call.phase

abbrev pub Awaits : Client → Type 0
Awaits c = CallAwaits c.outstanding c.call

-- ---- in the middle of a step

-- before the call begins
abbrev PhaseMay : Option Request → Phase → Type 0
PhaseMay o (Waits (Commit timed)) = Unit {0}
PhaseMay o (Waits n) = Has o
PhaseMay o p = Unit {0}

abbrev CallMay : Option Request → Option Call → Type 0
CallMay o None = Unit {0}
CallMay o (Some call) = PhaseMay o call.phase

abbrev May : Done → Type 0
May d = CallMay d.client.outstanding d.client.call

-- and before a request goes out
abbrev PhaseBegun : Option Request → Phase → Type 0
PhaseBegun o Starts = Has o
PhaseBegun o (Waits (Commit timed)) = Unit {0}
PhaseBegun o (Waits n) = Has o
PhaseBegun o p = Unit {0}

abbrev CallBegun : Option Request → Option Call → Type 0
CallBegun o None = Unit {0}
CallBegun o (Some call) = PhaseBegun o call.phase

abbrev Begun : Done → Type 0
Begun d = CallBegun d.client.outstanding d.client.call

-- where one is outstanding nothing is wanting
phase_begun : (o : Option Request) (r : Request) → o ≡ Some r → (p : Phase) → PhaseBegun o p
phase_begun o r is Starts = subst Has (sym is) tt
phase_begun o r is (Needs n) = tt
phase_begun o r is (Waits First) = subst Has (sym is) tt
phase_begun o r is (Waits (Get tries)) = subst Has (sym is) tt
phase_begun o r is (Waits (Commit timed)) = tt
phase_begun o r is (Waits (Report timed)) = subst Has (sym is) tt
phase_begun o r is (Waits (Close x report)) = subst Has (sym is) tt
phase_begun o r is (Reads io) = tt
phase_begun o r is (Probes io) = tt
phase_begun o r is (Gathers io) = tt
phase_begun o r is (Scatters io queue) = tt

call_begun : (o : Option Request) (r : Request) → o ≡ Some r → (call : Option Call) → CallBegun o call
call_begun o r is None = tt
call_begun o r is (Some call) = phase_begun o r is call.phase

phase_awaits : (o : Option Request) (r : Request) → o ≡ Some r → (p : Phase) → PhaseAwaits o p
phase_awaits o r is Starts = subst Has (sym is) tt
phase_awaits o r is (Needs n) = subst Has (sym is) tt
phase_awaits o r is (Waits First) = subst Has (sym is) tt
phase_awaits o r is (Waits (Get tries)) = subst Has (sym is) tt
phase_awaits o r is (Waits (Commit timed)) = tt
phase_awaits o r is (Waits (Report timed)) = subst Has (sym is) tt
phase_awaits o r is (Waits (Close x report)) = subst Has (sym is) tt
phase_awaits o r is (Reads io) = tt
phase_awaits o r is (Probes io) = tt
phase_awaits o r is (Gathers io) = tt
phase_awaits o r is (Scatters io queue) = tt

call_awaits : (o : Option Request) (r : Request) → o ≡ Some r → (call : Option Call) → CallAwaits o call
call_awaits o r is None = tt
call_awaits o r is (Some call) = phase_awaits o r is call.phase

-- ---- turns of a call

-- it doesn't wait behind this turn
abbrev Unwaiting : Phase → Type 0
Unwaiting (Waits n) = ⊥
Unwaiting p = Unit {0}

abbrev TurnMay : Turn → Type 0
TurnMay (Goes p) = Unwaiting p
TurnMay (Ends o) = Unit {0}
TurnMay (Forgets o) = Unit {0}

may_phase : (o : Option Request) (p : Phase) → Unwaiting p → PhaseMay o p
may_phase o (Waits n) u = absurd u
may_phase o Starts u = tt
may_phase o (Needs n) u = tt
may_phase o (Reads io) u = tt
may_phase o (Probes io) u = tt
may_phase o (Gathers io) u = tt
may_phase o (Scatters io queue) u = tt

by_turn_may : (d : Done) (op : CallOp) (t : Turn) → TurnMay t → May (by_turn d op t)
by_turn_may d op (Goes p) u = may_phase d.client.outstanding p u
by_turn_may d op (Ends o) u = tt
by_turn_may d op (Forgets o) u = tt

-- its dealings with the drives
late_may : (p : Phase) → IsLate p → Unwaiting p
late_may (Waits n) l = absurd l
late_may Starts l = tt
late_may (Needs n) l = tt
late_may (Reads io) l = tt
late_may (Probes io) l = tt
late_may (Gathers io) l = tt
late_may (Scatters io queue) l = tt

few_may : (t : Turn) → FewTurn t → TurnMay t
unfolding FewTurn
few_may (Goes p) f = late_may p f
few_may (Ends o) f = tt
few_may (Forgets o) f = tt

late_begun : (o : Option Request) (p : Phase) → IsLate p → PhaseBegun o p
late_begun o (Waits n) l = absurd l
late_begun o Starts l = absurd l
late_begun o (Needs n) l = tt
late_begun o (Reads io) l = tt
late_begun o (Probes io) l = tt
late_begun o (Gathers io) l = tt
late_begun o (Scatters io queue) l = tt

by_turn_begun : (d : Done) (op : CallOp) (t : Turn) → FewTurn t → Begun (by_turn d op t)
unfolding FewTurn
by_turn_begun d op (Goes p) f = late_begun d.client.outstanding p f
by_turn_begun d op (Ends o) f = tt
by_turn_begun d op (Forgets o) f = tt

either_turn : (b : Bool) (t u : Turn) → TurnMay t → TurnMay u → TurnMay (if b then t else u)
either_turn true t u x y = x
either_turn false t u x y = y

busy_may : (tries : ℕ) (o : Outcome) → TurnMay (busy tries o)
unfolding busy
busy_may tries o = either_turn (nat_lt (tries + 1) MAX_TRIES) _ _ tt tt

refused_may : (status detail tries : ℕ) → TurnMay (refused_with status detail tries)
refused_may status detail tries =
    either_turn (status == NFS4ERR_NOENT) _ _ tt
    (either_turn (status == NFS4ERR_LAYOUTTRYLATER) _ _ (busy_may tries (HeldBy detail))
    (either_turn (status == NFS4ERR_RECALLCONFLICT) _ _ (busy_may tries (Fencing detail))
    (either_turn (status == NFS4ERR_LAYOUTUNAVAILABLE) _ _ tt tt)))

not_granted_may : (a : Answer) (tries : ℕ) → TurnMay (not_granted a tries)
unfolding not_granted
not_granted_may a tries = refused_may (status_of a.results) a.detail tries

not_committed_may : (status detail : ℕ) → TurnMay (not_committed status detail)
unfolding not_committed
not_committed_may status detail = either_turn (status == NFS4ERR_BADLAYOUT) _ _ tt tt

either_moved : (b : Bool) (m n : Moved) → TurnMay m.turn → TurnMay n.turn → TurnMay (if b then m else n).turn
either_moved true m n x y = x
either_moved false m n x y = y

on_commit_may : (h : Held) (op : CallOp) (a : Answer) (timed : List TimedOut) → TurnMay (on_commit h op a timed).turn
unfolding on_commit
on_commit_may h op a timed =
    either_moved (status_of a.results == NFS4_OK) (committed h op a timed)
    (turned h (not_committed (status_of a.results) a.detail)) (few_may (accounted op timed) (accounted_few op timed))
    (not_committed_may (status_of a.results) a.detail)

-- ---- an answer

either_done : (b : Bool) (d e : Done) → May d → May e → May (if b then d else e)
either_done true d e x y = x
either_done false d e x y = y

answered_get_may : (d : Done) (op : CallOp) (r : Result Held Why) → May (answered_get d op r)
answered_get_may d op (Err w) = tt
answered_get_may d op (Ok h) = tt

-- what waits for a commit under no grant stays
commit_may : (d : Done) (op : CallOp) (a : Answer) (timed : List TimedOut) (o : Option Held) → May d
    → May (commit_under d op a (Commit timed) o)
commit_may d op a timed None k = k
commit_may d op a timed (Some h) k =
    by_turn_may (record (with_held d (on_commit h op a timed).held) { commands = (on_commit h op a timed).sent }) op
    (on_commit h op a timed).turn (on_commit_may h op a timed)

need_may : (d : Done) (op : CallOp) (n : Need) (a : Answer) → d.client.call ≡ Some (record { op = op; phase = Waits n })
    → May (on_need d op n a)
need_may d op First a is = tt
need_may d op (Get tries) a is =
    either_done (status_of a.results == NFS4_OK) _ _ (answered_get_may d op (taken a op))
    (by_turn_may d op (not_granted a tries) (not_granted_may a tries))
need_may d op (Commit timed) a is =
    commit_may d op a timed (held_of d.client.held (file_of op)) (subst (CallMay d.client.outstanding) (sym is) tt)
need_may d op (Report timed) a is = tt
need_may d op (Close x report) a is = tt

-- an answer to no call changes none: it doesn't wait
phase_may : (d : Done) (op : CallOp) (p : Phase) (a : Answer) → d.client.call ≡ Some (record { op = op; phase = p })
    → May (on_phase d op p a)
phase_may d op (Waits n) a is = need_may d op n a is
phase_may d op Starts a is = subst (CallMay d.client.outstanding) (sym is) tt
phase_may d op (Needs n) a is = subst (CallMay d.client.outstanding) (sym is) tt
phase_may d op (Reads io) a is = subst (CallMay d.client.outstanding) (sym is) tt
phase_may d op (Probes io) a is = subst (CallMay d.client.outstanding) (sym is) tt
phase_may d op (Gathers io) a is = subst (CallMay d.client.outstanding) (sym is) tt
phase_may d op (Scatters io queue) a is = subst (CallMay d.client.outstanding) (sym is) tt

call_may : (d : Done) (o : Option Call) (a : Answer) → d.client.call ≡ o → May (on_call d o a)
call_may d None a is = subst (CallMay d.client.outstanding) (sym is) tt
call_may d (Some call) a is = phase_may d call.op call.phase a is

-- ---- the end of a step

starts_with_begun : (d : Done) (op : CallOp) (n : Need) (o : Option Request) → d.client.outstanding ≡ o
    → Begun (starts_with d op n o)
starts_with_begun d op n None is = tt
starts_with_begun d op n (Some r) is = call_begun d.client.outstanding r is d.client.call

under_begun : (d : Done) (op : CallOp) (o : Option Held) → Begun (starts_under d op o)
under_begun d op None = starts_with_begun d op (Get 0) d.client.outstanding refl
under_begun d op (Some h) = by (covers h op)
  where
    by : (b : Bool) → Begun (if b then moved d op (begins h op) else starts_with d op First d.client.outstanding)
    by true =
        by_turn_begun (record (with_held d (begins h op).held) { commands = (begins h op).sent }) op (begins h op).turn
        (turn_few (begins h op) (begins_few h op))
    by false = starts_with_begun d op First d.client.outstanding refl

at_begun : (d : Done) (op : CallOp) (p : Phase) → d.client.call ≡ Some (record { op = op; phase = p }) → May d
    → Begun (starts_at d op p)
at_begun d op Starts is k = under_begun d op (held_of d.client.held (file_of op))
at_begun d op (Needs n) is k = subst (CallBegun d.client.outstanding) (sym is) tt
at_begun d op (Waits First) is k =
    subst (CallBegun d.client.outstanding) (sym is) (subst (CallMay d.client.outstanding) is k)
at_begun d op (Waits (Get tries)) is k =
    subst (CallBegun d.client.outstanding) (sym is) (subst (CallMay d.client.outstanding) is k)
at_begun d op (Waits (Commit timed)) is k = subst (CallBegun d.client.outstanding) (sym is) tt
at_begun d op (Waits (Report timed)) is k =
    subst (CallBegun d.client.outstanding) (sym is) (subst (CallMay d.client.outstanding) is k)
at_begun d op (Waits (Close x report)) is k =
    subst (CallBegun d.client.outstanding) (sym is) (subst (CallMay d.client.outstanding) is k)
at_begun d op (Reads io) is k = subst (CallBegun d.client.outstanding) (sym is) tt
at_begun d op (Probes io) is k = subst (CallBegun d.client.outstanding) (sym is) tt
at_begun d op (Gathers io) is k = subst (CallBegun d.client.outstanding) (sym is) tt
at_begun d op (Scatters io queue) is k = subst (CallBegun d.client.outstanding) (sym is) tt

started : (d : Done) (o : Option Call) → d.client.call ≡ o → May d → Begun (starts_call d o)
started d None is k = subst (CallBegun d.client.outstanding) (sym is) tt
started d (Some call) is k = at_begun d call.op call.phase is k

abbrev Rests : Done → Type 0
Rests d = CallAwaits d.client.outstanding d.client.call

asked_rests : (d : Done) (op : CallOp) (n : Need) (o : Option Held) → Rests (asks_under d op n o)
unfolding requests
asked_rests d op First None = tt
asked_rests d op (Get tries) None = tt
asked_rests d op (Commit timed) None = tt
asked_rests d op (Report timed) None = tt
asked_rests d op (Close x report) None = tt
asked_rests d op First (Some h) = tt
asked_rests d op (Get tries) (Some h) = tt
asked_rests d op (Commit timed) (Some h) = tt
asked_rests d op (Report timed) (Some h) = tt
asked_rests d op (Close x report) (Some h) = tt

-- without a call nothing waits
idle_returns : (d : Done) (u : Option Due) → d.client.call ≡ None → Rests (returns d u)
unfolding requests
idle_returns d None is = subst (CallAwaits d.client.outstanding) (sym is) tt
idle_returns d (Some u) is =
    let r : Request = request_of (record d.client { due = due_behind d.client.held d.client.due }) u.file
    (return_args u.number []) in
    call_awaits (Some r) r refl d.client.call

idle_due : (d : Done) → d.client.call ≡ None → Rests (returns_due d)
unfolding returns_due
idle_due d is = by (d.client.next == 0)
  where
    by : (b : Bool) → Rests (if b then d else returns d (find (is_held d.client.held) d.client.due))
    by true = subst (CallAwaits d.client.outstanding) (sym is) tt
    by false = idle_returns d (find (is_held d.client.held) d.client.due) is

phase_rests : (d : Done) (op : CallOp) (p : Phase) → d.client.call ≡ Some (record { op = op; phase = p })
    → d.client.outstanding ≡ None → PhaseBegun d.client.outstanding p → Rests (progress_phase d op p)
phase_rests d op (Needs n) is none k = asked_rests d op n (held_of d.client.held (file_of op))
phase_rests d op Starts is none k = absurd (subst Has none k)
phase_rests d op (Waits First) is none k = absurd (subst Has none k)
phase_rests d op (Waits (Get tries)) is none k = absurd (subst Has none k)
phase_rests d op (Waits (Commit timed)) is none k = subst (CallAwaits d.client.outstanding) (sym is) tt
phase_rests d op (Waits (Report timed)) is none k = absurd (subst Has none k)
phase_rests d op (Waits (Close x report)) is none k = absurd (subst Has none k)
phase_rests d op (Reads io) is none k = subst (CallAwaits d.client.outstanding) (sym is) tt
phase_rests d op (Probes io) is none k = subst (CallAwaits d.client.outstanding) (sym is) tt
phase_rests d op (Gathers io) is none k = subst (CallAwaits d.client.outstanding) (sym is) tt
phase_rests d op (Scatters io queue) is none k = subst (CallAwaits d.client.outstanding) (sym is) tt

call_rests : (d : Done) (o : Option Call) → d.client.call ≡ o → d.client.outstanding ≡ None → Begun d
    → Rests (progress_call d o)
call_rests d None is none k = idle_due d is
call_rests d (Some call) is none k =
    phase_rests d call.op call.phase is none (subst (CallBegun d.client.outstanding) is k)

free_rests : (d : Done) (o : Option Request) → d.client.outstanding ≡ o → Begun d → Rests (progress_free d o)
free_rests d (Some r) is k = call_awaits d.client.outstanding r is d.client.call
free_rests d None is k = call_rests d d.client.call refl is k

finished_awaits : (d : Done) → May d → Awaits (finished d).client
unfolding finished progressed begun
finished_awaits d k =
    free_rests (begun d) (begun d).client.outstanding refl (started d d.client.call refl k)

-- ---- any turn

-- what awaits something of a drive drives
drives : (p : Phase) (a : Awaited) (xs ys : List Awaited) → awaited_in p ≡ xs → xs ≡ a ∷ ys → IsDriving p
drives Starts a xs ys e f = absurd (cc (e ∙ f))
drives (Needs n) a xs ys e f = absurd (cc (e ∙ f))
drives (Waits n) a xs ys e f = absurd (cc (e ∙ f))
drives (Reads io) a xs ys e f = tt
drives (Probes io) a xs ys e f = tt
drives (Gathers io) a xs ys e f = tt
drives (Scatters io queue) a xs ys e f = tt

found_drives : (p : Phase) (q : Awaited → Bool) (a : Awaited) (xs : List Awaited) → awaited_in p ≡ xs → find q xs ≡ Some a
    → IsDriving p
found_drives p q a [] e f = absurd (cc f)
found_drives p q a (x ∷ xs) e f = drives p x (x ∷ xs) xs e refl

timed_drives : (k : ℕ) (p : Phase) (a : Awaited) (ys xs : List Awaited) → awaited_in p ≡ xs → of_component k xs ≡ a ∷ ys
    → IsDriving p
unfolding of_component
timed_drives k p a ys [] e f = absurd (cc f)
timed_drives k p a ys (x ∷ xs) e f = drives p x (x ∷ xs) xs e refl

may_of : (o : Option Request) (p : Phase) → PhaseAwaits o p → PhaseMay o p
may_of o Starts k = tt
may_of o (Needs n) k = tt
may_of o (Waits First) k = k
may_of o (Waits (Get tries)) k = k
may_of o (Waits (Commit timed)) k = tt
may_of o (Waits (Report timed)) k = k
may_of o (Waits (Close x report)) k = k
may_of o (Reads io) k = tt
may_of o (Probes io) k = tt
may_of o (Gathers io) k = tt
may_of o (Scatters io queue) k = tt

may_call : (o : Option Request) (c : Option Call) → CallAwaits o c → CallMay o c
may_call o None k = tt
may_call o (Some call) k = may_of o call.phase k

pub step_awaits : (c : Client) (i : Input) → Awaits c → Awaits (step c i).client
step_awaits c i k = each_turn c i (λ (s : Step). Awaits s.client) (record {
  rests = k;
  nothing = λ op is none. k;
  called = λ op is none can. finished_awaits (quiet (with_start c op)) tt;
  answered = λ a is.
      finished_awaits (on_call (quiet (record c { outstanding = None })) c.call a)
      (call_may (quiet (record c { outstanding = None })) c.call a refl);
  replied = λ drive q call h a is.
      let m : Moved = replied h call.op call.phase a q in
      finished_awaits (moved (quiet c) call.op m)
      (by_turn_may (record (with_held (quiet c) m.held) { commands = m.sent }) call.op m.turn
      (few_may m.turn (turn_few m (replied_few h call.op call.phase a q
      (found_drives call.phase (answers drive q) a (awaited_in call.phase) refl is.awaits)))));
  unheld = finished_awaits (quiet c) (may_call c.outstanding c.call k);
  recalled = λ q is. finished_awaits (obeys c q) (may_call c.outstanding c.call k);
  unmatched = λ q is. finished_awaits (no_match c q) (may_call c.outstanding c.call k);
  timed = λ n call h a xs is.
      let m : Moved = timed_out h call.op call.phase n a xs in
      finished_awaits (moved (quiet c) call.op m)
      (by_turn_may (record (with_held (quiet c) m.held) { commands = m.sent }) call.op m.turn
      (few_may m.turn (turn_few m (timed_out_few h call.op call.phase n a xs
      (timed_drives n call.phase a xs (awaited_in call.phase) refl is.awaits)))));
  leaves = λ is. finished_awaits (quiet (record c { due = all_due c.due c.held })) (may_call c.outstanding c.call k);
  resends = λ is. k;
})
