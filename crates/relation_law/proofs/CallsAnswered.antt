-- An answer to a client's request is taken: what the machine has of the client behind the events of that line.
-- Towards `CallsGoOn` (`specs/Steps.antt`).
use Rattle.std.proofs.Common.{◌≡◌, ◌==◌, ◌&&◌, ℕ, ◌+◌, Bool, true, false, [], Option, Some, None, refl, sym, ap, subst, ◌∙◌, inl, inr, if◌then◌else◌}
use Rattle.std.proofs.lemmas.Bool.{cases_Bool}
use Rattle.std.proofs.lemmas.List.{append-nil}
use Rattle.data_map.specs.declared.check.RawMap.{RawMap}
use Rattle.layout_ops.specs.declared.messages.Answer.{Answer}
use Rattle.layout_ops.specs.declared.statuses.TheConstants.{NFS4ERR_NOENT, NFS4ERR_LAYOUTTRYLATER, NFS4ERR_RECALLCONFLICT, NFS4ERR_LAYOUTUNAVAILABLE}
use Rattle.std.specs.Prelude.{nat_lt}
use Rattle.client_rules.specs.Turns.{needing}
use Rattle.client_rules.specs.declared.limits.TheConstants.{MAX_TRIES, NO_COMPONENT}
use Rattle.client_rules.specs.Answers.{busy, unavailable, not_granted}
use Rattle.client_rules.specs.Calls.{file_of}
use Rattle.client_rules.specs.Going.{quiet, phased, over}
use Rattle.client_rules.specs.Grants.{held_of}
use Rattle.client_rules.specs.Results.{status_of}
use Rattle.world_history.specs.ClientNames.{Client, Call, CallOp, HeldBy, Fencing, Need, Get, Phase, Starts, Needs, Waits, Reads, Probes, Gathers, Scatters, Outcome, Turn, Goes, Ends, Forgets}
use Rattle.world_history.specs.Handed.{pending_op}
use Rattle.fence_law.specs.State.{State}
use Rattle.file_simulation.specs.Calls.{IsIdle, IsClient, CallIs, CallOn, CallAt, HeldIs, reports_on, waits_report}
use Rattle.relation_law.specs.CallsTurns.{PhasePends, PhaseOn, OutcomeIs, PendsAt, IsMid, NeedHas}
use Rattle.relation_law.proofs.CallsMid.{held_plain, IsReady}

-- ---- a call that goes on as it was

-- the call waits for no answer
abbrev pub IsUnasked : Phase → Type 0
IsUnasked (Waits n) = ⊥
IsUnasked p = Unit {0}

pub pends_as : (m : RawMap) (s : State) (c : ℕ) (op : CallOp) (o q : Option Answer) (p : Phase) → IsUnasked p →
    CallIs m s c op o p → PhasePends m s c op q [] p
pends_as m s c op o q Starts u w = (refl, w)
pends_as m s c op o q (Needs n) u w = (refl, w)
pends_as m s c op o q (Reads io) u w = inl w
pends_as m s c op o q (Probes io) u w = inl w
pends_as m s c op o q (Gathers io) u w = inl w
pends_as m s c op o q (Scatters io queue) u w =
    inl (record { entry = w.0; before = io.awaited; awaited = sym (append-nil io.awaited); scattering = w.1 })
pends_as m s c op o q (Waits n) u w = absurd u

pub unasked_plain : (file : ℕ) (call : Call) → IsUnasked call.phase → reports_on file (Some call) ≡ false
unasked_plain file call u = by_file (file_of call.op == file) call.phase u
  where
    by_file : (b : Bool) (p : Phase) → IsUnasked p → (b && waits_report p) ≡ false
    by_file false p v = refl
    by_file true Starts v = refl
    by_file true (Needs n) v = refl
    by_file true (Reads io) v = refl
    by_file true (Probes io) v = refl
    by_file true (Gathers io) v = refl
    by_file true (Scatters io queue) v = refl
    by_file true (Waits n) v = absurd v

-- ---- the answer to a request on another file

-- the client behind the answer, where it changes no call
abbrev pub answered_client : Client → Client
answered_client x = record x { outstanding = None }

module _ (file : ℕ) (m : RawMap) (c : ℕ) (s : State) (x : Client) (o : Option Answer) (k : IsClient file m s c x o)
    (has : (op : CallOp) (n : Need) → x.call ≡ Some (record { op = op; phase = Needs n }) → (file_of op == file) ≡ true →
    NeedHas n (held_of x.held file)) where
  -- nothing of the call changes
  pub stays_mid : (y : Option Call) → x.call ≡ y → ((call : Call) → y ≡ Some call → (file_of call.op == file) ≡ true →
      IsUnasked call.phase) → IsMid file m s c None (pending_op x) (quiet (answered_client x))
  stays_mid y e free = record {
    held = held_plain file m s c x (answered_client x) o None (held_of x.held file) quiet_ quiet_ k.held;
    call = subst (λ z. PendsAt file m s c None (pending_op x) None [] z) (sym e) (by_call y e free);
    fresh = k.fresh;
    used = k.used;
    about = λ call is. about_call call is;
    ended = λ u is. absurd (cc is);
    unasked = refl;
    needs = has;
  }
    where
      about_call : (call : Call) → x.call ≡ Some call → pending_op x ≡ Some call.op
      about_call call is = rw is refl

      quiet_by : (z : Option Call) → x.call ≡ z →
          ((call : Call) → z ≡ Some call → (file_of call.op == file) ≡ true → IsUnasked call.phase) →
          reports_on file z ≡ false
      quiet_by None f g = refl
      quiet_by (Some call) f g = elim (cases_Bool (file_of call.op == file)) [
        | inl t ↦ unasked_plain file call (g call refl t)
        | inr n ↦ rw n refl
      ]

      quiet_ : reports_on file x.call ≡ false
      quiet_ = ap (reports_on file) e ∙ quiet_by y e free

      at_call : (z : Option Call) → x.call ≡ z → CallAt file m s c o z
      at_call z f = subst (λ w. CallAt file m s c o w) f k.call

      on_by : (call : Call) (b : Bool) → (b ≡ true → IsUnasked call.phase) → CallOn b m s c call o → PhaseOn b m s c call None []
      on_by call true u w = pends_as m s c call.op o None call.phase (u refl) w
      on_by call false u w = w

      by_call : (z : Option Call) → x.call ≡ z →
          ((call : Call) → z ≡ Some call → (file_of call.op == file) ≡ true → IsUnasked call.phase) →
          PendsAt file m s c None (pending_op x) None [] z
      by_call None f g = at_end (pending_op x) (at_call None f)
        where
          at_end : (p : Option CallOp) → IsIdle s c → PendsAt file m s c None p None [] None
          at_end None w = w
          at_end (Some p) w = w
      by_call (Some call) f g = on_by call (file_of call.op == file) (g call refl) (at_call (Some call) f)

-- ---- what becomes of a call that is over, or begins again

module _ (file : ℕ) (m : RawMap) (c : ℕ) (s : State) (ready : IsReady file m c None s) (x : Client) where
  abbrev y : Client
  y = answered_client x

  -- the call is over
  pub over_now : (op : CallOp) (u : Outcome) → HeldIs file m s c (record y { call = None }) None (held_of x.held file) →
      PendsAt file m s c None (Some op) (Some u) [] None → IsMid file m s c None (Some op) (over (quiet y) u)
  over_now op u held w = record {
    held = held;
    call = w;
    fresh = ready.fresh;
    used = ready.used;
    about = λ call is. absurd (cc is);
    ended = λ v is. refl;
    unasked = refl;
    needs = λ p n is b. absurd (cc is);
  }

  -- or comes to another phase
  pub phased_now : (op : CallOp) (p : Phase) →
      HeldIs file m s c (record y { call = Some (record { op = op; phase = p }) }) None (held_of x.held file) →
      PhaseOn (file_of op == file) m s c (record { op = op; phase = p }) None [] →
      ((n : Need) → p ≡ Needs n → NeedHas n (held_of x.held file)) →
      IsMid file m s c None (Some op) (phased (quiet y) op p)
  phased_now op p held w has = record {
    held = held;
    call = w;
    fresh = ready.fresh;
    used = ready.used;
    about = λ call is. ap (λ (z : Call). Some z.op) (same_call (record { op = op; phase = p }) call is);
    ended = λ u is. absurd (cc is);
    unasked = refl;
    needs = λ q n is b. has n (phase_is (record { op = op; phase = p }) (record { op = q; phase = Needs n }) is);
  }
    where
      same_call : (a b : Call) → Some a ≡ Some b → a ≡ b
      same_call a b q = cc q

      phase_is : (a b : Call) → Some a ≡ Some b → a.phase ≡ b.phase
      phase_is a b q = cc q

-- ---- the turn of a call that was given no grant

-- it asks once more, or ends so
abbrev pub IsBusyTurn : Turn → Type 0
IsBusyTurn (Goes (Needs (Get tries))) = Unit {0}
IsBusyTurn (Goes p) = ⊥
IsBusyTurn (Ends u) = (s : State) (c : ℕ) (op : CallOp) → IsIdle s c → OutcomeIs s c op u
IsBusyTurn (Forgets u) = ⊥

either_busy : (b : Bool) (t u : Turn) → IsBusyTurn t → IsBusyTurn u → IsBusyTurn (if b then t else u)
either_busy true t u x y = x
either_busy false t u x y = y

busy_is : (tries : ℕ) (u : Outcome) → ((s : State) (c : ℕ) (op : CallOp) → IsIdle s c → OutcomeIs s c op u) →
    IsBusyTurn (busy tries u)
unfolding busy
busy_is tries u f = either_busy (nat_lt (tries + 1) MAX_TRIES) (needing (Get (tries + 1))) (Ends u) tt f

unavailable_is : (detail : ℕ) (s : State) (c : ℕ) (op : CallOp) → IsIdle s c → OutcomeIs s c op (unavailable detail)
unavailable_is detail s c op w = elim (cases_Bool (detail == NO_COMPONENT)) [ inl t ↦ rw t w | inr f ↦ rw f w ]

pub not_granted_is : (a : Answer) (tries : ℕ) → IsBusyTurn (not_granted a tries)
unfolding not_granted
not_granted_is a tries =
    either_busy (status_of a.results == NFS4ERR_NOENT) _ _ (λ s c op w. w)
    (either_busy (status_of a.results == NFS4ERR_LAYOUTTRYLATER) _ _ (busy_is tries (HeldBy a.detail) (λ s c op w. w))
    (either_busy (status_of a.results == NFS4ERR_RECALLCONFLICT) _ _ (busy_is tries (Fencing a.detail) (λ s c op w. w))
    (either_busy (status_of a.results == NFS4ERR_LAYOUTUNAVAILABLE) _ _ (unavailable_is a.detail) (λ s c op w. w))))
