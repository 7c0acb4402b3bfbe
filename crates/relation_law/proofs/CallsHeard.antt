-- A reply comes to a client's call, or a component times out: what the machine has of the client behind the events of that line.
-- Towards `CallsGoOn` (`specs/Steps.antt`).
use Rattle.std.proofs.Common.{◌≡◌, ◌==◌, ◌&&◌, ℕ, Bool, true, false, List, [], ◌∷◌, ◌++◌, find, Option, Some, None, Result, Ok, Err, refl, sym, ap, subst, ◌∙◌, inl, inr, if◌then◌else◌}
use Rattle.std.proofs.lemmas.Bool.{cases_Bool, eqb-true}
use Rattle.data_map.specs.declared.check.RawMap.{RawMap}
use Rattle.layout_ops.specs.declared.messages.Answer.{Answer}
use Rattle.osd_commands.specs.declared.replies.Reply.{Reply}
use Rattle.client_rules.specs.declared.limits.TheConstants.{PERFORMED, OTHER_TAG}
use Rattle.client_rules.specs.Calls.{file_of}
use Rattle.client_rules.specs.Commands.{of_component}
use Rattle.client_rules.specs.Going.{quiet, moved, by_turn, with_held}
use Rattle.client_rules.specs.Grants.{held_of}
use Rattle.client_rules.specs.Layouts.{taken}
use Rattle.client_rules.specs.Results.{status_of}
use Rattle.client_rules.specs.Answers.{not_granted, on_commit}
use Rattle.layout_ops.specs.declared.statuses.TheConstants.{NFS4_OK}
use Rattle.client_rules.specs.Io.{awaited_in}
use Rattle.client_rules.specs.Messages.{answered_get, commit_under, on_get, on_need, on_phase, on_call}
use Rattle.client_rules.specs.Replies.{performed, refusal, refused, replied, timed_out}
use Rattle.client_rules.proofs.HeldGrants.{held_file}
use Rattle.exchange_law.proofs.Kept.{IsKept, replied_kept, timed_out_kept}
use Rattle.world_history.specs.ServerNames.{Slot}
use Rattle.world_history.specs.ClientNames.{Client, Call, CallOp, Held, Awaited, TimedOut, Why, Need, First, Get, Commit, Report, Phase, Starts, Needs, Waits, Reads, Probes, Gathers, Scatters, Outcome, Close, Silent, Lost, Turn, Goes, Ends, Forgets, Moved, Done}
use Rattle.fence_law.specs.Words.{In as InRun}
use Rattle.fence_law.specs.State.{State, Event}
use Rattle.fence_law.specs.Machine.{after, after_all}
use Rattle.file_simulation.specs.EventLists.{where_so, entry_of}
use Rattle.file_simulation.specs.ClientEvents as table
use Rattle.file_simulation.specs.Requests.{kept_for}
use Rattle.file_simulation.specs.Calls.{IsClient, IsHolding, CallOn, CallAt, HeldIs, reports_on, waits_report}
use Rattle.relation_law.specs.CallsTurns.{IsMid, IsWorking, ReplyFits, TimeFits, MovedIs}
use Rattle.relation_law.proofs.CallsMid.{IsReady, moved_here, moved_other, HoldsBy, holds_any}
use Rattle.relation_law.proofs.CallsReplied.{replied_is, timed_is}
use Rattle.fence_law.specs.State.{Event as event}

-- ---- phases

-- a phase in which a command is awaited works with the drives
pub found_working : (p : Phase) (f : Awaited → Bool) (a : Awaited) → find f (awaited_in p) ≡ Some a → IsWorking p
found_working Starts f a e = absurd (cc e)
found_working (Needs n) f a e = absurd (cc e)
found_working (Waits n) f a e = absurd (cc e)
found_working (Reads io) f a e = tt
found_working (Probes io) f a e = tt
found_working (Gathers io) f a e = tt
found_working (Scatters io queue) f a e = tt

pub timed_working : (p : Phase) (k : ℕ) (a : Awaited) (xs : List Awaited) → of_component k (awaited_in p) ≡ a ∷ xs → IsWorking p
unfolding of_component
timed_working Starts k a xs e = absurd (cc e)
timed_working (Needs n) k a xs e = absurd (cc e)
timed_working (Waits n) k a xs e = absurd (cc e)
timed_working (Reads io) k a xs e = tt
timed_working (Probes io) k a xs e = tt
timed_working (Gathers io) k a xs e = tt
timed_working (Scatters io queue) k a xs e = tt

works_plain : (p : Phase) → IsWorking p → waits_report p ≡ false
works_plain (Reads io) w = refl
works_plain (Probes io) w = refl
works_plain (Gathers io) w = refl
works_plain (Scatters io queue) w = refl
works_plain p w = absurd w

-- ---- the outstanding request stays where a reply comes

pub moved_out : (x : Client) (op : CallOp) (mv : Moved) → (moved (quiet x) op mv).client.outstanding ≡ x.outstanding
moved_out x op mv = by_turn_ mv.turn
  where
    by_turn_ : (t : Turn) →
        (by_turn (record (with_held (quiet x) mv.held) { commands = mv.sent }) op t).client.outstanding ≡ x.outstanding
    by_turn_ (Goes p) = refl
    by_turn_ (Ends u) = refl
    by_turn_ (Forgets u) = refl

-- and so does its next number
pub moved_next : (x : Client) (op : CallOp) (mv : Moved) → (moved (quiet x) op mv).client.next ≡ x.next
moved_next x op mv = by_turn_ mv.turn
  where
    by_turn_ : (t : Turn) → (by_turn (record (with_held (quiet x) mv.held) { commands = mv.sent }) op t).client.next ≡ x.next
    by_turn_ (Goes p) = refl
    by_turn_ (Ends u) = refl
    by_turn_ (Forgets u) = refl

-- ---- no request is outstanding behind an answer

module _ (d : Done) (a : Answer) where
  abbrev Same : Done → Type 0
  Same e = (e.client.outstanding ≡ d.client.outstanding) × (e.client.next ≡ d.client.next)

  turn_out : (b : Done) (op : CallOp) (t : Turn) → Same b → Same (by_turn b op t)
  turn_out b op (Goes p) e = e
  turn_out b op (Ends u) e = e
  turn_out b op (Forgets u) e = e

  taken_out : (op : CallOp) (r : Result Held Why) → Same (answered_get d op r)
  taken_out op (Ok h) = (refl, refl)
  taken_out op (Err w) = (refl, refl)

  get_out : (op : CallOp) (tries : ℕ) → Same (on_get d op tries a)
  get_out op tries = elim (cases_Bool (status_of a.results == NFS4_OK)) [
    | inl t ↦ rw t (taken_out op (taken a op))
    | inr n ↦ rw n (turn_out d op (not_granted a tries) (refl, refl))
  ]

  commit_out : (op : CallOp) (timed : List TimedOut) (h : Option Held) → Same (commit_under d op a (Commit timed) h)
  commit_out op timed (Some h) =
      turn_out (record (with_held d (on_commit h op a timed).held) { commands = (on_commit h op a timed).sent }) op
      (on_commit h op a timed).turn (refl, refl)
  commit_out op timed None = (refl, refl)

  need_out : (op : CallOp) (n : Need) → Same (on_need d op n a)
  need_out op First = (refl, refl)
  need_out op (Get tries) = get_out op tries
  need_out op (Commit timed) = commit_out op timed (held_of d.client.held (file_of op))
  need_out op (Report timed) = (refl, refl)
  need_out op (Close u report) = (refl, refl)

  phase_out : (op : CallOp) (p : Phase) → Same (on_phase d op p a)
  phase_out op (Waits n) = need_out op n
  phase_out op Starts = (refl, refl)
  phase_out op (Needs n) = (refl, refl)
  phase_out op (Reads io) = (refl, refl)
  phase_out op (Probes io) = (refl, refl)
  phase_out op (Gathers io) = (refl, refl)
  phase_out op (Scatters io queue) = (refl, refl)

  both_out : (z : Option Call) → Same (on_call d z a)
  both_out None = (refl, refl)
  both_out (Some call) = phase_out call.op call.phase

  pub call_out : (z : Option Call) → (on_call d z a).client.outstanding ≡ d.client.outstanding
  call_out z = (both_out z).0

  pub call_next : (z : Option Call) → (on_call d z a).client.next ≡ d.client.next
  call_next z = (both_out z).1

-- ---- a call that works with the drives

module _ (file : ℕ) (m : RawMap) (c : ℕ) (s : State) (x : Client) (slot : Option Slot)
    (k : IsClient file m s c x (kept_for slot x.outstanding)) where
  abbrev o : Option Answer
  o = kept_for slot x.outstanding

  module _ (call : Call) (call_is : x.call ≡ Some call) (h : Held) (holds : held_of x.held (file_of call.op) ≡ Some h)
      (works : IsWorking call.phase) where
    quiet_call : reports_on file x.call ≡ false
    quiet_call = ap (reports_on file) call_is ∙ by_file (file_of call.op == file)
      where
        by_file : (b : Bool) → (b && waits_report call.phase) ≡ false
        by_file true = works_plain call.phase works
        by_file false = refl

    on_call_is : (b : Bool) → (file_of call.op == file) ≡ b → CallOn b m s c call o
    on_call_is b e = subst (λ z. CallOn z m s c call o) e (subst (λ z. CallAt file m s c o z) call_is k.call)

    holding_there : (file_of call.op == file) ≡ true → IsHolding m s c h
    holding_there e =
        let there : held_of x.held file ≡ Some h =
        ap (λ (n : ℕ). held_of x.held n) (sym (eqb-true (file_of call.op) file e)) ∙ holds in
        subst (λ z. HeldIs file m s c x o z) there k.held

    ready_at : (t : State) → t.waiting c ≡ s.waiting c → t.sequence c ≡ s.sequence c → t.answers ≡ s.answers →
        t.nonce c ≡ s.nonce c → t.next ≡ s.next → IsReady file m c o t
    ready_at t a b d e f = record {
      fresh = λ g size w n. rw e (k.fresh g size (sym a ∙ w)
          (subst (λ z. InRun (record { client = c; sequence = z; grant = Some g; size = size }) s.answers) b
          (subst (λ l. InRun (record { client = c; sequence = t.sequence c; grant = Some g; size = size }) l) d n)));
      used = rw (e, f) k.used;
    }

    still_holding : (t : State) → t.held c ≡ s.held c → t.known_size c ≡ s.known_size c → t.nonce c ≡ s.nonce c →
        IsHolding m s c h → IsHolding m t c h
    still_holding t a b d w =
        record { grant = w.grant; held = a ∙ w.held; same = w.same; size = b ∙ w.size; nonce = rw d w.nonce }

    off_mid : (mv : Moved) → IsKept h mv → (file_of call.op == file) ≡ false →
        IsMid file m s c o (Some call.op) (moved (quiet x) call.op mv)
    off_mid mv kept off =
        moved_other file m c o s (record { fresh = k.fresh; used = k.used }) (quiet x) refl refl call.op h mv off holds kept
        k.held quiet_call (on_call_is false off)

    -- behind these events the client's requests are as they were, and so is its grant
    on_mid : (t : State) → t.waiting c ≡ s.waiting c → t.sequence c ≡ s.sequence c → t.answers ≡ s.answers →
        t.nonce c ≡ s.nonce c → t.next ≡ s.next → (mv : Moved) → (file_of call.op == file) ≡ true →
        MovedIs m t c call.op o h mv →
        ((r : IsReady file m c o t) → HoldsBy file m c o t r (quiet x) refl refl call.op h mv mv.turn) →
        IsMid file m t c o (Some call.op) (moved (quiet x) call.op mv)
    on_mid t a b d e f mv here w holds_ =
        let r : IsReady file m c o t = ready_at t a b d e f in
        moved_here file m c o t r (quiet x) refl refl call.op h mv here (held_file x.held (file_of call.op) h holds) w (holds_ r)

    -- it still holds the grant
    hold_on : (t : State) → t.held c ≡ s.held c → t.known_size c ≡ s.known_size c → t.nonce c ≡ s.nonce c → (mv : Moved) →
        (file_of call.op == file) ≡ true → (r : IsReady file m c o t) →
        HoldsBy file m c o t r (quiet x) refl refl call.op h mv mv.turn
    hold_on t a b d mv here r =
        holds_any file m c o t r (quiet x) refl refl call.op h mv mv.turn (still_holding t a b d (holding_there here))

    -- a component times out
    turned_mid : (w : Turn) (mv : Moved) → mv.turn ≡ w → (file_of call.op == file) ≡ true →
        MovedIs m (after_all s (table.turned s c w)) c call.op o h mv →
        IsMid file m (after_all s (table.turned s c w)) c o (Some call.op) (moved (quiet x) call.op mv)
    turned_mid w mv e here z = by_turn_ w z
      where
        plain_mid : MovedIs m s c call.op o h mv → IsMid file m s c o (Some call.op) (moved (quiet x) call.op mv)
        plain_mid z = on_mid s refl refl refl refl refl mv here z (hold_on s refl refl refl mv here)

        ended_at : (j : ℕ) → MovedIs m (after s (event.EndsRead c j)) c call.op o h mv →
            IsMid file m (after s (event.EndsRead c j)) c o (Some call.op) (moved (quiet x) call.op mv)
        ended_at j z = on_mid (after s (event.EndsRead c j)) refl refl refl refl refl mv here z
            (hold_on (after s (event.EndsRead c j)) refl refl refl mv here)

        broken_at : (j : ℕ) → MovedIs m (after s (event.Breaks c j)) c call.op o h mv →
            IsMid file m (after s (event.Breaks c j)) c o (Some call.op) (moved (quiet x) call.op mv)
        broken_at j z = on_mid (after s (event.Breaks c j)) refl refl refl refl refl mv here z
            (hold_on (after s (event.Breaks c j)) refl refl refl mv here)

        by_turn_ : (y : Turn) → MovedIs m (after_all s (table.turned s c y)) c call.op o h mv →
            IsMid file m (after_all s (table.turned s c y)) c o (Some call.op) (moved (quiet x) call.op mv)
        by_turn_ (Ends (Silent n)) z = ended_at (entry_of s c) z
        by_turn_ (Ends (Lost ps)) z = ended_at (entry_of s c) z
        by_turn_ (Goes (Needs (Close u (b ∷ bs)))) z = broken_at (entry_of s c) z
        by_turn_ y z = plain_mid z

    time_mid : (n : ℕ) (a : Awaited) (xs : List Awaited) → of_component n (awaited_in call.phase) ≡ a ∷ xs →
        TimeFits h call.op call.phase a xs → (file_of call.op == file) ≡ true →
        IsMid file m (after_all s (table.turned s c (timed_out h call.op call.phase n a xs).turn)) c o (Some call.op)
        (moved (quiet x) call.op (timed_out h call.op call.phase n a xs))
    time_mid n a xs of fit here =
        turned_mid (timed_out h call.op call.phase n a xs).turn (timed_out h call.op call.phase n a xs) refl here
        (timed_is m c call.op o h s call.phase n a xs works (on_call_is true here) fit of (holding_there here).size)

    -- ---- a reply

    performed_mid : (p : Phase) (mv : Moved) (a : Awaited) → (file_of call.op == file) ≡ true →
        MovedIs m (after_all s (table.performed s c a p)) c call.op o h mv →
        IsMid file m (after_all s (table.performed s c a p)) c o (Some call.op) (moved (quiet x) call.op mv)
    performed_mid (Scatters io queue) mv a here z =
        let t : State = after s (event.Learns c a.ask.component (entry_of s c) a.command.nonce a.ask.offset) in
        on_mid t refl refl refl refl refl mv here z (hold_on t refl refl refl mv here)
    performed_mid p mv a here z = on_mid s refl refl refl refl refl mv here z (hold_on s refl refl refl mv here)

    -- the grant is forgotten, or goes back
    refused_turn : (p : Phase) (a : Awaited) (q : Reply) → (q.verdict == OTHER_TAG) ≡ true →
        (u : Outcome) × ((refused h p a q).turn ≡ Forgets u)
    unfolding refused
    refused_turn p a q e = rw e (refusal a q, refl)

    forgot_at : (t : State) → t.waiting c ≡ s.waiting c → t.sequence c ≡ s.sequence c → t.answers ≡ s.answers →
        t.nonce c ≡ s.nonce c → t.next ≡ s.next → (mv : Moved) (u : Outcome) → mv.turn ≡ Forgets u →
        (file_of call.op == file) ≡ true → MovedIs m t c call.op o h mv →
        IsMid file m t c o (Some call.op) (moved (quiet x) call.op mv)
    forgot_at t a b d e f mv u is here w =
        on_mid t a b d e f mv here w
        (λ r. subst (λ y. HoldsBy file m c o t r (quiet x) refl refl call.op h mv y) (sym is) tt)

    refused_by : (p : Phase) (a : Awaited) (q : Reply) (t0 : State) (es : List Event) → t0.waiting c ≡ s.waiting c →
        t0.sequence c ≡ s.sequence c → t0.answers ≡ s.answers → t0.nonce c ≡ s.nonce c → t0.next ≡ s.next →
        t0.held c ≡ s.held c → t0.known_size c ≡ s.known_size c → after_all s es ≡ t0 →
        (file_of call.op == file) ≡ true → (b : Bool) → (q.verdict == OTHER_TAG) ≡ b →
        MovedIs m (after_all t0 (where_so b (event.Forgets c ∷ []))) c call.op o h (refused h p a q) →
        IsMid file m (after_all t0 (where_so b (event.Forgets c ∷ []))) c o (Some call.op)
        (moved (quiet x) call.op (refused h p a q))
    refused_by p a q t0 es e1 e2 e3 e4 e5 e6 e7 e8 here true tag w =
        let u = refused_turn p a q tag in
        forgot_at (after t0 (event.Forgets c)) e1 e2 e3 e4 e5 (refused h p a q) u.0 u.1 here w
    refused_by p a q t0 es e1 e2 e3 e4 e5 e6 e7 e8 here false tag w =
        on_mid t0 e1 e2 e3 e4 e5 (refused h p a q) here w (hold_on t0 e6 e7 e4 (refused h p a q) here)

    refused_mid : (p : Phase) (a : Awaited) (q : Reply) → (file_of call.op == file) ≡ true →
        MovedIs m (after_all s (table.refused s c p ++ where_so (q.verdict == OTHER_TAG) (event.Forgets c ∷ []))) c call.op o h
        (refused h p a q) →
        IsMid file m (after_all s (table.refused s c p ++ where_so (q.verdict == OTHER_TAG) (event.Forgets c ∷ []))) c o
        (Some call.op)
        (moved (quiet x) call.op (refused h p a q))
    refused_mid (Scatters io queue) a q here w =
        refused_by (Scatters io queue) a q (after s (event.Breaks c (entry_of s c))) (event.Breaks c (entry_of s c) ∷ [])
        refl refl refl refl refl refl refl refl here (q.verdict == OTHER_TAG) refl w
    refused_mid p a q here w =
        refused_by p a q (after s (event.EndsRead c (entry_of s c))) (event.EndsRead c (entry_of s c) ∷ [])
        refl refl refl refl refl refl refl refl here (q.verdict == OTHER_TAG) refl w

    reply_mid : (a : Awaited) (q : Reply) → ReplyFits h call.op call.phase a → (file_of call.op == file) ≡ true →
        IsMid file m (after_all s (table.replied s c a q call.phase)) c o (Some call.op)
        (moved (quiet x) call.op (replied h call.op call.phase a q))
    unfolding replied
    reply_mid a q fit here =
        let z = replied_is m c call.op o h s call.phase a q works (on_call_is true here) fit (holding_there here).size in
        by_verdict (q.verdict == PERFORMED) refl z
      where
        by_verdict : (b : Bool) → (q.verdict == PERFORMED) ≡ b →
            MovedIs m (after_all s (if b then table.performed s c a call.phase
            else table.refused s c call.phase ++ where_so (q.verdict == OTHER_TAG) (event.Forgets c ∷ []))) c call.op o h
            (if b then performed h call.op call.phase a q else refused h call.phase a q) →
            IsMid file m (after_all s (if b then table.performed s c a call.phase
            else table.refused s c call.phase ++ where_so (q.verdict == OTHER_TAG) (event.Forgets c ∷ []))) c o (Some call.op)
            (moved (quiet x) call.op (if b then performed h call.op call.phase a q else refused h call.phase a q))
        by_verdict true e z = performed_mid call.phase (performed h call.op call.phase a q) a here z
        by_verdict false e z = refused_mid call.phase a q here z

    -- on any file
    pub reply_any : (a : Awaited) (q : Reply) → ((file_of call.op == file) ≡ true → ReplyFits h call.op call.phase a) →
        (b : Bool) → (file_of call.op == file) ≡ b →
        IsMid file m (after_all s (where_so b (table.replied s c a q call.phase))) c o (Some call.op)
        (moved (quiet x) call.op (replied h call.op call.phase a q))
    reply_any a q fit true e = reply_mid a q (fit e) e
    reply_any a q fit false e = off_mid (replied h call.op call.phase a q) (replied_kept h call.op call.phase a q) e

    pub time_any : (n : ℕ) (a : Awaited) (xs : List Awaited) → of_component n (awaited_in call.phase) ≡ a ∷ xs →
        ((file_of call.op == file) ≡ true → TimeFits h call.op call.phase a xs) → (b : Bool) → (file_of call.op == file) ≡ b →
        IsMid file m (after_all s (where_so b (table.turned s c (timed_out h call.op call.phase n a xs).turn))) c o (Some call.op)
        (moved (quiet x) call.op (timed_out h call.op call.phase n a xs))
    time_any n a xs of fit true e = time_mid n a xs of (fit e) e
    time_any n a xs of fit false e =
        off_mid (timed_out h call.op call.phase n a xs) (timed_out_kept h call.op call.phase n a xs) e
