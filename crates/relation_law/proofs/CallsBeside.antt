-- An answer to a client's request on another file: the machine of the file has of the client what it had.
-- Towards `CallsGoOn` (`specs/Steps.antt`).
use Rattle.std.proofs.Common.{◌≡◌, ◌≢◌, ◌==◌, ℕ, Bool, true, false, List, Option, Some, None, Result, Ok, Err, refl, sym, ap, subst, ◌∙◌, inl, inr}
use Rattle.std.proofs.lemmas.Bool.{true≢false, cases_Bool, eq-eqb}
use Rattle.data_map.specs.declared.check.RawMap.{RawMap}
use Rattle.layout_ops.specs.declared.messages.Answer.{Answer}
use Rattle.layout_ops.specs.declared.statuses.TheConstants.{NFS4_OK}
use Rattle.client_rules.specs.Answers.{not_granted, on_commit, on_report}
use Rattle.client_rules.specs.Calls.{file_of}
use Rattle.client_rules.specs.Going.{quiet, phased, over, by_turn, with_held}
use Rattle.client_rules.specs.Grants.{held_of, put_held}
use Rattle.client_rules.specs.Layouts.{taken}
use Rattle.client_rules.specs.Messages.{answered_get, commit_under, on_get, on_need, on_phase, on_call}
use Rattle.client_rules.specs.Results.{status_of}
use Rattle.exchange_law.proofs.ClientKeeping.{put_other}
use Rattle.exchange_law.proofs.Kept.{on_commit_kept}
use Rattle.world_history.specs.ClientNames.{Client, Call, CallOp, Held, TimedOut, Why, BadLayout, Need, First, Get, Commit, Report, Close, Phase, Starts, Needs, Waits, Reads, Probes, Gathers, Scatters, Outcome, Turn, Goes, Ends, Forgets}
use Rattle.world_history.specs.Handed.{pending_op}
use Rattle.fence_law.specs.State.{State}
use Rattle.file_simulation.specs.Calls.{IsIdle, IsClient, CallOn, CallAt, HeldIs, reports_on}
use Rattle.relation_law.specs.CallsTurns.{IsMid, NeedHas}
use Rattle.relation_law.proofs.CallsMid.{held_plain, moved_other, IsReady}
use Rattle.relation_law.proofs.CallsAnswered.{IsUnasked, answered_client, stays_mid, over_now, phased_now, IsBusyTurn, not_granted_is}
use Rattle.relation_law.proofs.CallsTaken.{taken_file}

module _ (file : ℕ) (m : RawMap) (c : ℕ) (s : State) (x : Client) (o : Option Answer) (k : IsClient file m s c x o)
    (has : (op : CallOp) (n : Need) → x.call ≡ Some (record { op = op; phase = Needs n }) → (file_of op == file) ≡ true →
    NeedHas n (held_of x.held file)) (a : Answer) where
  abbrev y : Client
  y = answered_client x

  ready : IsReady file m c None s
  ready = record { fresh = k.fresh; used = k.used }

  -- what a call on another file does
  module _ (op : CallOp) (p : Phase) (is : x.call ≡ Some (record { op = op; phase = p })) (off : (file_of op == file) ≡ false)
    where
      idle : IsIdle s c
      idle = at_off (file_of op == file) off (subst (λ z. CallAt file m s c o z) is k.call)
        where
          at_off : (b : Bool) → b ≡ false → CallOn b m s c (record { op = op; phase = p }) o → IsIdle s c
          at_off false e w = w
          at_off true e w = absurd (true≢false e)

      quiet_off : (q : Phase) → reports_on file (Some (record { op = op; phase = q })) ≡ false
      quiet_off q = rw off refl

      quiet_now : reports_on file x.call ≡ false
      quiet_now = ap (reports_on file) is ∙ quiet_off p

      op_is : pending_op x ≡ Some op
      op_is = rw is refl

      other_file : (n : ℕ) → n ≡ file_of op → n ≢ file
      other_file n e f = true≢false (sym (eq-eqb (file_of op) file (sym e ∙ f)) ∙ off)

      as_call : (z : Option Call) → reports_on file z ≡ false →
          HeldIs file m s c (record y { call = z }) None (held_of x.held file)
      as_call z q = held_plain file m s c x (record y { call = z }) o None (held_of x.held file) quiet_now q k.held

      phased_off : (q : Phase) → ((n : Need) → q ≡ Needs n → NeedHas n (held_of x.held file)) →
          IsMid file m s c None (Some op) (phased (quiet y) op q)
      phased_off q f =
          phased_now file m c s ready x op q (as_call (Some (record { op = op; phase = q })) (quiet_off q)) (rw off idle) f

      over_off : (u : Outcome) → IsMid file m s c None (Some op) (over (quiet y) u)
      over_off u = over_now file m c s ready x op u (as_call None refl) (rw off idle)

      -- nothing changes
      stays_off : IsMid file m s c None (Some op) (quiet y)
      stays_off = subst (λ z. IsMid file m s c None z (quiet y)) op_is
          (stays_mid file m c s x o k has (Some (record { op = op; phase = p })) is (λ call e b. absurd (off_call call e b)))
        where
          off_call : (call : Call) → Some (record { op = op; phase = p }) ≡ Some call → (file_of call.op == file) ≡ true → ⊥
          off_call call e b =
              true≢false (sym b
              ∙ ap (λ (z : CallOp). file_of z == file) (sym (op_same (record { op = op; phase = p }) call e)) ∙ off)
            where
              op_same : (v w : Call) → Some v ≡ Some w → v.op ≡ w.op
              op_same v w q = cc q

      turn_off : (t : Turn) → IsBusyTurn t → IsMid file m s c None (Some op) (by_turn (quiet y) op t)
      turn_off (Goes (Needs (Get n))) w =
          phased_off (Needs (Get n)) (λ q e. subst (λ i. NeedHas i (held_of x.held file)) (need_same (Get n) q e) tt)
        where
          need_same : (i j : Need) → Needs i ≡ Needs j → i ≡ j
          need_same i j q = cc q
      turn_off (Ends u) w = over_off u
      turn_off (Forgets u) w = absurd w
      turn_off (Goes q) w = absurd w

      taken_off : (r : Result Held Why) → taken a op ≡ r → IsMid file m s c None (Some op) (answered_get (quiet y) op r)
      taken_off (Err why) e = over_off (BadLayout why)
      taken_off (Ok h) e =
          let same : held_of (put_held x.held h) file ≡ held_of x.held file =
          put_other x.held h file (other_file h.file (taken_file a op h e)) in
          record {
            held = subst (λ q. HeldIs file m s c (phased (with_held (quiet y) h) op Starts).client None q) (sym same)
                (held_plain file m s c x (phased (with_held (quiet y) h) op Starts).client o None (held_of x.held file) quiet_now
                (quiet_off Starts) k.held);
            call = rw off idle;
            fresh = k.fresh;
            used = k.used;
            about = λ call e. ap (λ (z : Call). Some z.op) (same_call (record { op = op; phase = Starts }) call e);
            ended = λ u e. absurd (cc e);
            unasked = refl;
            needs =
                λ q n e b. absurd (starts_needs n (phase_same (record { op = op; phase = Starts }) (record {
                  op = q;
                  phase = Needs n;
                }) e));
          }
        where
          same_call : (v w : Call) → Some v ≡ Some w → v ≡ w
          same_call v w q = cc q

          phase_same : (v w : Call) → Some v ≡ Some w → v.phase ≡ w.phase
          phase_same v w q = cc q

          starts_needs : (n : Need) → Starts ≡ Needs n → ⊥
          starts_needs n q = cc q

      get_off : (tries : ℕ) → IsMid file m s c None (Some op) (on_get (quiet y) op tries a)
      get_off tries = elim (cases_Bool (status_of a.results == NFS4_OK)) [
        | inl t ↦ rw t (taken_off (taken a op) refl)
        | inr n ↦ rw n (turn_off (not_granted a tries) (not_granted_is a tries))
      ]

      commit_off : (timed : List TimedOut) (h : Option Held) → held_of x.held (file_of op) ≡ h →
          IsMid file m s c None (Some op) (commit_under (quiet y) op a (Commit timed) h)
      commit_off timed None e = stays_off
      commit_off timed (Some h) e =
          moved_other file m c None s ready (quiet y) refl refl op h (on_commit h op a timed) off e (on_commit_kept h op a timed)
          (held_plain file m s c x y o None (held_of x.held file) quiet_now quiet_now k.held) quiet_now idle

      need_off : (n : Need) → IsMid file m s c None (Some op) (on_need (quiet y) op n a)
      need_off First = phased_off Starts (λ q e. absurd (cc e))
      need_off (Get tries) = get_off tries
      need_off (Commit timed) = commit_off timed (held_of x.held (file_of op)) refl
      need_off (Report timed) = over_off (on_report op a timed)
      need_off (Close u report) = over_off u

      pub phase_off : IsMid file m s c None (Some op) (on_phase (quiet y) op p a)
      phase_off = by_phase p refl
        where
          by_phase : (q : Phase) → p ≡ q → IsMid file m s c None (Some op) (on_phase (quiet y) op q a)
          by_phase (Waits n) e = need_off n
          by_phase Starts e = stays_off
          by_phase (Needs n) e = stays_off
          by_phase (Reads io) e = stays_off
          by_phase (Probes io) e = stays_off
          by_phase (Gathers io) e = stays_off
          by_phase (Scatters io queue) e = stays_off

  -- a call on the file that waits for nothing goes on as it was
  unasked_on : (op : CallOp) (p : Phase) → IsUnasked p → IsMid file m s c None (pending_op x) (quiet y) →
      IsMid file m s c None (pending_op x) (on_phase (quiet y) op p a)
  unasked_on op Starts u w = w
  unasked_on op (Needs n) u w = w
  unasked_on op (Reads io) u w = w
  unasked_on op (Probes io) u w = w
  unasked_on op (Gathers io) u w = w
  unasked_on op (Scatters io queue) u w = w
  unasked_on op (Waits n) u w = absurd u

  -- The answer, where a call on the file doesn't wait for it.
  pub unasked_mid : ((call : Call) → x.call ≡ Some call → (file_of call.op == file) ≡ true → IsUnasked call.phase) →
      IsMid file m s c None (pending_op x) (on_call (quiet y) x.call a)
  unasked_mid free = by_call x.call refl
    where
      stays : IsMid file m s c None (pending_op x) (quiet y)
      stays = stays_mid file m c s x o k has x.call refl free

      on_by : (call : Call) → x.call ≡ Some call → (b : Bool) → (file_of call.op == file) ≡ b →
          IsMid file m s c None (pending_op x) (on_phase (quiet y) call.op call.phase a)
      on_by call is true e = unasked_on call.op call.phase (free call is e) stays
      on_by call is false e =
          subst (λ z. IsMid file m s c None z (on_phase (quiet y) call.op call.phase a)) (sym (op_is call.op call.phase is e))
          (phase_off call.op call.phase is e)

      by_call : (z : Option Call) → x.call ≡ z → IsMid file m s c None (pending_op x) (on_call (quiet y) z a)
      by_call None e = stays
      by_call (Some call) e = on_by call e (file_of call.op == file) refl
