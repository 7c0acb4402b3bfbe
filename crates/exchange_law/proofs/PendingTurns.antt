-- A call of a client is pending behind a step, unless the step tells how it ended.
use Rattle.std.proofs.Common.{◌≡◌, ◌==◌, ℕ, Bool, true, false, Option, Some, None, Result, Ok, Err, is_some, refl, sym, ap, subst, ◌∙◌, if◌then◌else◌}
use Rattle.std.specs.Prelude.{option_map}
use Rattle.layout_ops.specs.declared.statuses.TheConstants.{NFS4_OK}
use Rattle.layout_ops.specs.declared.messages.Answer.{Answer}
use Rattle.client_rules.specs.Answers.{not_granted, on_commit}
use Rattle.client_rules.specs.Calls.{file_of, span_of}
use Rattle.client_rules.specs.Going.{quiet, with_held, by_turn, moved, phased, begins, requests, asks_under, returns}
use Rattle.client_rules.specs.Grants.{held_of}
use Rattle.client_rules.specs.History.{Input, Calls, step}
use Rattle.client_rules.specs.Layouts.{taken}
use Rattle.client_rules.specs.Messages.{Step, still, finished, answered_get, on_get, commit_under, on_need, on_phase, on_call, obeys, no_match}
use Rattle.client_rules.specs.Results.{status_of}
use Rattle.client_rules.specs.Steps.{is_bad_range, is_spent, writes_nothing, starts, calls}
use Rattle.world_history.specs.ClientNames.{Client, Call, CallOp, Busy, BadRange, SlotSpent, Held, Why, Due, Need, First, Get, Commit, Report, Close, Phase, Starts, Needs, Waits, Reads, Probes, Gathers, Scatters, Outcome, WriteOk, Turn, Goes, Ends, Forgets, Moved, Done}
use Rattle.world_history.specs.Handed.{pending_op}
use Rattle.history_law.specs.Turns.{with_start}
use Rattle.history_law.proofs.Turns.{each_turn, each_finish}

-- where no outcome was told the call is still pending, and none is where one was
abbrev pub EndsAs : Option CallOp → Option Outcome → Option Call → Type 0
EndsAs o None call = option_map (λ (x : Call). x.op) call ≡ o
EndsAs o (Some x) call = call ≡ None

abbrev Stays : Option CallOp → Done → Type 0
Stays o d = EndsAs o d.outcome d.client.call

-- ---- what becomes of a call

running : (o : Option CallOp) (x : Option Outcome) (call : Option Call) (c : Call) → call ≡ Some c → EndsAs o x call →
    (x ≡ None) × (o ≡ Some c.op)
running o None call c is e = (refl, sym e ∙ ap (option_map (λ (y : Call). y.op)) is)
running o (Some y) call c is e = absurd (cc (sym e ∙ is))

stays_at : (o : Option CallOp) (d : Done) (op : CallOp) (p : Phase) → o ≡ Some op → d.outcome ≡ None →
    Stays o (phased d op p)
stays_at o d op p some none =
    subst (λ (x : Option Outcome). EndsAs o x (Some (record { op = op; phase = p }))) (sym none) (sym some)

stays_by : (o : Option CallOp) (d : Done) (op : CallOp) (t : Turn) → o ≡ Some op → d.outcome ≡ None →
    Stays o (by_turn d op t)
stays_by o d op (Goes p) some none = stays_at o d op p some none
stays_by o d op (Ends x) some none = refl
stays_by o d op (Forgets x) some none = refl

stays_moved : (o : Option CallOp) (d : Done) (op : CallOp) (m : Moved) → o ≡ Some op → d.outcome ≡ None →
    Stays o (moved d op m)
stays_moved o d op m some none =
    stays_by o (record (with_held d m.held) { commands = m.sent }) op m.turn some none

stays_asking : (o : Option CallOp) (d : Done) (op : CallOp) (n : Need) (h : Option Held) → o ≡ Some op → d.outcome ≡ None →
    Stays o (asks_under d op n h)
unfolding requests
stays_asking o d op n None some none = stays_at o d op (Waits n) some none
stays_asking o d op n (Some h) some none = stays_at o d op (Waits n) some none

stays_returning : (o : Option CallOp) (d : Done) (u : Option Due) → Stays o d → Stays o (returns d u)
unfolding requests
stays_returning o d None q = q
stays_returning o d (Some u) q = q

finished_ends : (o : Option CallOp) (d : Done) → Stays o d → EndsAs o (finished d).outcome (finished d).client.call
unfolding finished
finished_ends o d q = each_finish (Stays o) (record {
  needs = λ e op n s is out first.
      let r = running o e.outcome e.client.call (record { op = op; phase = Starts }) is s in
      stays_at o e op (Needs n) r.1 r.0;
  begun = λ e op h s is held covered.
      let r = running o e.outcome e.client.call (record { op = op; phase = Starts }) is s in
      stays_moved o e op (begins h op) r.1 r.0;
  asks = λ e op n h s is out held.
      let r = running o e.outcome e.client.call (record { op = op; phase = Needs n }) is s in
      stays_asking o e op n h r.1 r.0;
  gives_back = λ e u s none out. stays_returning o e u s;
}) d q

-- ---- an answer

stays_here : (d : Done) (call : Call) → d.client.call ≡ Some call → d.outcome ≡ None → Stays (Some call.op) d
stays_here d call is none =
    subst (λ (x : Option Outcome). EndsAs (Some call.op) x d.client.call) (sym none)
    (ap (option_map (λ (y : Call). y.op)) is)

on_get_stays : (d : Done) (op : CallOp) (tries : ℕ) (a : Answer) → d.outcome ≡ None → Stays (Some op) (on_get d op tries a)
on_get_stays d op tries a none = by (status_of a.results == NFS4_OK)
  where
    given : (r : Result Held Why) → Stays (Some op) (answered_get d op r)
    given (Err w) = refl
    given (Ok h) = stays_at (Some op) (with_held d h) op Starts refl none

    by : (b : Bool) →
        Stays (Some op) (if b then answered_get d op (taken a op) else by_turn d op (not_granted a tries))
    by true = given (taken a op)
    by false = stays_by (Some op) d op (not_granted a tries) refl none

need_stays : (d : Done) (call : Call) (n : Need) (a : Answer) → d.client.call ≡ Some call → d.outcome ≡ None →
    Stays (Some call.op) (on_need d call.op n a)
need_stays d call First a is none = stays_at (Some call.op) d call.op Starts refl none
need_stays d call (Get tries) a is none = on_get_stays d call.op tries a none
need_stays d call (Commit timed) a is none = by (held_of d.client.held (file_of call.op))
  where
    by : (h : Option Held) → Stays (Some call.op) (commit_under d call.op a (Commit timed) h)
    by None = stays_here d call is none
    by (Some h) = stays_moved (Some call.op) d call.op (on_commit h call.op a timed) refl none
need_stays d call (Report timed) a is none = refl
need_stays d call (Close outcome report) a is none = refl

phase_stays : (d : Done) (call : Call) (p : Phase) (a : Answer) → d.client.call ≡ Some call → d.outcome ≡ None →
    Stays (Some call.op) (on_phase d call.op p a)
phase_stays d call (Waits n) a is none = need_stays d call n a is none
phase_stays d call Starts a is none = stays_here d call is none
phase_stays d call (Needs n) a is none = stays_here d call is none
phase_stays d call (Reads io) a is none = stays_here d call is none
phase_stays d call (Probes io) a is none = stays_here d call is none
phase_stays d call (Gathers io) a is none = stays_here d call is none
phase_stays d call (Scatters io queue) a is none = stays_here d call is none

answer_stays : (d : Done) (o : Option Call) (a : Answer) → d.client.call ≡ o → d.outcome ≡ None →
    Stays (option_map (λ (x : Call). x.op) o) (on_call d o a)
answer_stays d None a is none =
    subst (λ (x : Option Outcome). EndsAs None x d.client.call) (sym none) (ap (option_map (λ (y : Call). y.op)) is)
answer_stays d (Some call) a is none = phase_stays d call call.phase a is none

-- ---- any input

abbrev Ended : Option CallOp → Step → Type 0
Ended o t = EndsAs o t.outcome t.client.call

moved_ends : (c : Client) (call : Call) (m : Moved) → c.call ≡ Some call →
    Ended (pending_op c) (finished (moved (quiet c) call.op m))
moved_ends c call m is =
    finished_ends (pending_op c) _
    (stays_moved (pending_op c) (quiet c) call.op m (ap (option_map (λ (y : Call). y.op)) is) refl)

-- a call behind a step that isn't a call
pub turn_ends : (c : Client) (i : Input) → ((op : CallOp) → i ≡ Calls op → ⊥) → Ended (pending_op c) (step c i)
turn_ends c i other = each_turn c i (Ended (pending_op c)) (record {
  rests = refl;
  nothing = λ op is nothing. absurd (other op is);
  called = λ op is free can. absurd (other op is);
  answered = λ a is. finished_ends (pending_op c) _ (answer_stays (quiet (record c { outstanding = None })) c.call a refl refl);
  replied = λ drive q call h a is. moved_ends c call _ is.call_is;
  unheld = finished_ends (pending_op c) (quiet c) refl;
  recalled = λ q is. finished_ends (pending_op c) (obeys c q) refl;
  unmatched = λ q is. finished_ends (pending_op c) (no_match c q) refl;
  timed = λ k call h a xs is. moved_ends c call _ is.call_is;
  leaves = λ is. finished_ends (pending_op c) _ refl;
  resends = λ is. refl;
})

-- ---- a call

none_is : (o : Option Call) → is_some o ≡ false → o ≡ None
none_is None e = refl
none_is (Some call) e = absurd (cc e)

pub calls_end : (c : Client) (op : CallOp) (s : Step) → calls c op ≡ Ok s → Ended (Some op) s
unfolding calls
calls_end c op s e = by (is_some c.call) (is_bad_range (span_of op)) (is_spent c.next) refl e
  where
    started : is_some c.call ≡ false → (b : Bool) →
        Ended (Some op)
        (if b then record (still c) { outcome = Some (WriteOk 0) } else finished (quiet (with_start c op)))
    started free true = none_is c.call free
    started free false = finished_ends (Some op) (quiet (with_start c op)) refl

    by : (a b d : Bool) → is_some c.call ≡ a →
        (if a then Err Busy else if b then Err BadRange else if d then Err SlotSpent else Ok (starts c op)) ≡ Ok s →
        Ended (Some op) s
    by true b d free q = absurd (cc q)
    by false true d free q = absurd (cc q)
    by false false true free q = absurd (cc q)
    by false false false free q =
        let same : starts c op ≡ s = cc q in subst (Ended (Some op)) same (started free (writes_nothing op))
