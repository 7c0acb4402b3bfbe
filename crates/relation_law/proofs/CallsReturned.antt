-- An answer to a return of the file, or to a LAYOUTGET: the machine's client takes what comes.
-- Towards `CallsGoOn` (`specs/Steps.antt`).
use Rattle.std.proofs.Common.{◌≡◌, ◌==◌, ℕ, ◌*◌, ◌<◌, Bool, true, false, [], ◌∷◌, Option, Some, None, Result, Ok, Err, refl, sym, ap, subst, ◌∙◌, inl, inr}
use Rattle.std.proofs.lemmas.Bool.{true≢false, cases_Bool, eqb-true}
use Rattle.data_map.specs.declared.check.RawMap.{RawMap}
use Rattle.layout_ops.specs.declared.messages.Answer.{Answer}
use Rattle.layout_ops.specs.declared.results.LayoutGetOk.{LayoutGetOk}
use Rattle.layout_ops.specs.declared.statuses.TheConstants.{NFS4_OK}
use Rattle.client_rules.specs.declared.limits.TheConstants.{NONCES}
use Rattle.client_rules.specs.Answers.{not_granted}
use Rattle.client_rules.specs.Calls.{file_of}
use Rattle.client_rules.specs.Going.{quiet, phased, over, by_turn, with_held}
use Rattle.client_rules.specs.Grants.{held_of, put_held}
use Rattle.client_rules.specs.Layouts.{in_layouts, taken}
use Rattle.client_rules.specs.Messages.{answered_get, on_get}
use Rattle.client_rules.specs.Results.{layouts_in, status_of}
use Rattle.client_rules.proofs.HeldGrants.{put_at}
use Rattle.component_law.proofs.PartyAnswering.{taken_size}
use Rattle.world_history.specs.ClientNames.{Client, Call, CallOp, Held, Why, BadLayout, Need, First, Get, Commit, Report, Close, Phase, Starts, Needs, Waits, Reads, Probes, Gathers, Scatters, Outcome, Turn, Goes, Ends, Forgets}
use Rattle.fence_law.specs.State.{State, Grant}
use Rattle.fence_law.specs.State.{Event as event}
use Rattle.fence_law.specs.State.Call.{Idle}
use Rattle.fence_law.specs.Machine.{after}
use Rattle.fence_law.proofs.Words.{updated_same}
use Rattle.fence_law.proofs.Holds.{Holds}
use Rattle.fence_law.proofs.Commands.{Calls}
use Rattle.file_simulation.specs.ClientEvents.{grant_with}
use Rattle.file_simulation.specs.Grants.{LayoutIs}
use Rattle.file_simulation.specs.Requests.{GivesIn}
use Rattle.file_simulation.specs.Calls.{IsIdle, IsClient, CallIs, CallOn, CallAt, IsHolding, HeldIs, reports_on}
use Rattle.relation_law.specs.CallsTurns.{OutcomeIs, IsMid, NeedHas}
use Rattle.relation_law.proofs.CallsFirst.{takes_idle, takes_none, takes_holding}
use Rattle.relation_law.proofs.CallsMid.{IsReady}
use Rattle.relation_law.proofs.CallsAnswered.{IsUnasked, answered_client, unasked_plain, over_now, phased_now, IsBusyTurn, not_granted_is}
use Rattle.relation_law.proofs.CallsTaken.{taken_file}

module _ (file : ℕ) (m : RawMap) (c : ℕ) (s : State) (holding : Holds s) (calls : Calls s) (x : Client) (o : Option Answer)
    (k : IsClient file m s c x o) (waiting : s.waiting c ≡ true) where
  -- a client that waits holds nothing, and is at nothing
  held_none : s.held c ≡ None
  held_none = holding.waits c waiting

  at_idle : s.call c ≡ Idle
  at_idle = calls.waits c waiting

  pub gone : held_of x.held file ≡ None
  gone = by_held (held_of x.held file) k.held
    where
      by_held : (h : Option Held) → HeldIs file m s c x o h → h ≡ None
      by_held None w = refl
      by_held (Some h) w = absurd (cc (sym held_none ∙ w.held))

  module _ (g : Option Grant) (size : ℕ) where
    abbrev pub t : State
    t = after s (event.Takes c g size)

    pub ready_taken : IsReady file m c None t
    ready_taken = record {
      fresh = λ y z w i. absurd (true≢false (sym w ∙ updated_same s.waiting c false));
      used = k.used;
    }

  -- ---- none is taken

  abbrev u : ℕ → State
  u size = after s (event.Takes c None size)

  pub none_taken : (size : ℕ) (y : Client) (q : Option Answer) → reports_on file y.call ≡ false →
      HeldIs file m (u size) c y q None
  none_taken size y q quiet = rw quiet (takes_none s c size)

  -- a call that waits for no answer is idle
  idle_phase : (size : ℕ) (op : CallOp) (p : Phase) → IsUnasked p → CallIs m s c op o p → CallIs m (u size) c op None p
  idle_phase size op Starts w k = takes_idle s c None size k
  idle_phase size op (Needs First) w k = takes_idle s c None size k
  idle_phase size op (Needs (Get tries)) w k = takes_idle s c None size k
  idle_phase size op (Needs (Commit timed)) w k = absurd (cc (sym at_idle ∙ k.1.writing.at_))
  idle_phase size op (Needs (Report timed)) w k = absurd (cc (sym at_idle ∙ k.1.writing.at_))
  idle_phase size op (Needs (Close v [])) w k = takes_idle s c None size k
  idle_phase size op (Needs (Close v (e ∷ es))) w k = absurd (cc (sym at_idle ∙ k.at_))
  idle_phase size op (Reads io) w k = absurd (cc (sym at_idle ∙ k.1.at_))
  idle_phase size op (Probes io) w k = absurd (cc (sym at_idle ∙ k.1.at_))
  idle_phase size op (Gathers io) w k = absurd (cc (sym at_idle ∙ k.1.at_))
  idle_phase size op (Scatters io queue) w k = absurd (cc (sym at_idle ∙ k.1.writing.at_))
  idle_phase size op (Waits n) w k = absurd w

  idle_on : (size : ℕ) (b : Bool) (call : Call) → (b ≡ true → IsUnasked call.phase) → CallOn b m s c call o →
      CallOn b m (u size) c call None
  idle_on size true call free w = idle_phase size call.op call.phase (free refl) w
  idle_on size false call free w = takes_idle s c None size w

  idle_at : (size : ℕ) (z : Option Call) →
      ((call : Call) → z ≡ Some call → (file_of call.op == file) ≡ true → IsUnasked call.phase) →
      CallAt file m s c o z → CallAt file m (u size) c None z
  idle_at size None free w = takes_idle s c None size w
  idle_at size (Some call) free w = idle_on size (file_of call.op == file) call (free call refl) w

  quiet_at : (z : Option Call) → ((call : Call) → z ≡ Some call → (file_of call.op == file) ≡ true → IsUnasked call.phase) →
      reports_on file z ≡ false
  quiet_at None free = refl
  quiet_at (Some call) free = elim (cases_Bool (file_of call.op == file)) [
    | inl y ↦ unasked_plain file call (free call refl y)
    | inr n ↦ rw n refl
  ]

  -- a return that was due is answered
  pub due_taken : (size : ℕ) → ((call : Call) → x.call ≡ Some call → (file_of call.op == file) ≡ true → IsUnasked call.phase) →
      IsClient file m (u size) c x None
  due_taken size free = record {
    held = rw gone (none_taken size x None (quiet_at x.call free));
    call = idle_at size x.call free k.call;
    fresh = (ready_taken None size).fresh;
    used = k.used;
  }

  -- ---- the call's return is answered

  module _ (op : CallOp) (here : (file_of op == file) ≡ true) where
    on_here : (p : Phase) → reports_on file (Some (record { op = op; phase = p })) ≡ false →
        (size : ℕ) →
        HeldIs file m (u size) c (record (answered_client x) { call = Some (record { op = op; phase = p }) }) None
        (held_of x.held file)
    on_here p quiet size =
        rw gone (none_taken size (record (answered_client x) { call = Some (record { op = op; phase = p }) }) None quiet)

    idle_now : IsIdle s c → (size : ℕ) → IsIdle (u size) c
    idle_now w size = takes_idle s c None size w

    quiet_starts : reports_on file (Some (record { op = op; phase = Starts })) ≡ false
    quiet_starts = rw here refl

    quiet_need : (n : Need) → reports_on file (Some (record { op = op; phase = Needs n })) ≡ false
    quiet_need n = rw here refl

    pub first_returned : (size : ℕ) → IsIdle s c →
        IsMid file m (u size) c None (Some op) (phased (quiet (answered_client x)) op Starts)
    first_returned size idle =
        phased_now file m c (u size) (ready_taken None size) x op Starts (on_here Starts quiet_starts size)
        (rw here (refl, idle_now idle size)) (λ n e. absurd (cc e))

    over_here : (size : ℕ) (v : Outcome) → IsIdle s c → (IsIdle (u size) c → OutcomeIs (u size) c op v) →
        IsMid file m (u size) c None (Some op) (over (quiet (answered_client x)) v)
    over_here size v idle f =
        over_now file m c (u size) (ready_taken None size) x op v
        (rw gone (none_taken size (record (answered_client x) { call = None }) None refl)) (rw here (f (idle_now idle size)))

    pub close_returned : (size : ℕ) (v : Outcome) → IsIdle s c → ((s : State) → IsIdle s c → OutcomeIs s c op v) →
        IsMid file m (u size) c None (Some op) (over (quiet (answered_client x)) v)
    close_returned size v idle f = over_here size v idle (f (u size))

    -- ---- a LAYOUTGET is answered

    turn_here : (size : ℕ) (w : Turn) → IsIdle s c → IsBusyTurn w →
        IsMid file m (u size) c None (Some op) (by_turn (quiet (answered_client x)) op w)
    turn_here size (Goes (Needs (Get n))) idle w =
        phased_now file m c (u size) (ready_taken None size) x op (Needs (Get n))
        (on_here (Needs (Get n)) (quiet_need (Get n)) size)
        (rw here (refl, idle_now idle size)) (λ q e. subst (λ i. NeedHas i (held_of x.held file)) (need_same (Get n) q e) tt)
      where
        need_same : (i j : Need) → Needs i ≡ Needs j → i ≡ j
        need_same i j q = cc q
    turn_here size (Ends v) idle w = over_here size v idle (λ i. w (u size) c op i)
    turn_here size (Forgets v) idle w = absurd w
    turn_here size (Goes q) idle w = absurd w

    module _ (a : Answer) (idle : IsIdle s c) where
      -- none is given
      none_given : (r : Result Held Why) → taken a op ≡ r → ((h : Held) → taken a op ≡ Ok h → ⊥) →
          IsMid file m (u a.size) c None (Some op) (answered_get (quiet (answered_client x)) op r)
      none_given (Err why) e none = over_here a.size (BadLayout why) idle (λ i. i)
      none_given (Ok h) e none = absurd (none h e)

      -- one is
      one_given : (g : Grant) (h : Held) → taken a op ≡ Ok h → LayoutIs m g h → s.nonce c < g.number * NONCES →
          IsMid file m (after s (event.Takes c (Some g) a.size)) c None (Some op)
          (phased (with_held (quiet (answered_client x)) h) op Starts)
      one_given g h e same low =
          let w : State = after s (event.Takes c (Some g) a.size) in
          let holds : IsHolding m w c h = takes_holding m s c g a.size h same (sym (taken_size a op h e)) low in
          let there : held_of (put_held x.held h) file ≡ Some h =
          put_at x.held h file (taken_file a op h e ∙ eqb-true (file_of op) file here) in
          record {
            held =
                subst (λ q. HeldIs file m w c (phased (with_held (quiet (answered_client x)) h) op Starts).client None q)
                (sym there) holds;
            call = rw here (refl, takes_idle s c (Some g) a.size idle);
            fresh = (ready_taken (Some g) a.size).fresh;
            used = k.used;
            about = λ call i. ap (λ (z : Call). Some z.op) (same_call (record { op = op; phase = Starts }) call i);
            ended = λ z i. absurd (cc i);
            unasked = refl;
            needs =
                λ q n i b. absurd (starts_needs n (phase_same (record { op = op; phase = Starts }) (record {
                  op = q;
                  phase = Needs n;
                }) i));
          }
        where
          same_call : (y z : Call) → Some y ≡ Some z → y ≡ z
          same_call y z q = cc q

          phase_same : (y z : Call) → Some y ≡ Some z → y.phase ≡ z.phase
          phase_same y z q = cc q

          starts_needs : (n : Need) → Starts ≡ Needs n → ⊥
          starts_needs n q = cc q

      unread : layouts_in a.results ≡ None → (h : Held) → taken a op ≡ Ok h → ⊥
      unfolding taken
      unread e h w = cc (sym w ∙ ap (in_layouts a op) e)

      given_by : (q : Option LayoutGetOk) → layouts_in a.results ≡ q → (g : Option Grant) → GivesIn m a (Some op) q g →
          ((z : Grant) → g ≡ Some z → s.nonce c < z.number * NONCES) →
          IsMid file m (after s (event.Takes c g a.size)) c None (Some op)
          (answered_get (quiet (answered_client x)) op (taken a op))
      given_by None e g w low = rw w (none_given (taken a op) refl (unread e))
      given_by (Some ok) e g (z, h, is, t, same) low =
          rw (is, t) (one_given z h t same (low z is))

      pub get_answered : (tries : ℕ) (g : Option Grant) → GivesIn m a (Some op) (layouts_in a.results) g →
          ((z : Grant) → g ≡ Some z → s.nonce c < z.number * NONCES) → s.kept_grant c ≡ g →
          IsMid file m (after s (event.Takes c (grant_with s c a) a.size)) c None (Some op)
          (on_get (quiet (answered_client x)) op tries a)
      get_answered tries g gives low kept = elim (cases_Bool (status_of a.results == NFS4_OK)) [
        | inl y ↦ rw (y, kept) (given_by (layouts_in a.results) refl g gives low)
        | inr n ↦ rw n (turn_here a.size (not_granted a tries) idle (not_granted_is a tries))
      ]
