-- An answer to a client's outstanding request is taken: what the machine has of the client behind the events of that line.
-- Towards `CallsGoOn` (`specs/Steps.antt`).
use Rattle.std.proofs.Common.{◌≡◌, ◌==◌, ◌&&◌, not, ℕ, Bool, true, false, List, [], ◌∷◌, Option, Some, None, refl, sym, ap, subst, ◌∙◌, inl, inr, if◌then◌else◌}
use Rattle.std.proofs.lemmas.Bool.{true≢false, cases_Bool, eqb-true}
use Rattle.data_map.specs.declared.check.RawMap.{RawMap}
use Rattle.layout_ops.specs.declared.args.Args.{Args}
use Rattle.layout_ops.specs.declared.args.Args.TheVariants as args
use Rattle.layout_ops.specs.declared.messages.Answer.{Answer}
use Rattle.server_rules.specs.Laws.{last_of}
use Rattle.client_rules.specs.Answers.{is_loss_taken}
use Rattle.client_rules.specs.Calls.{file_of}
use Rattle.client_rules.specs.Going.{quiet}
use Rattle.client_rules.specs.Grants.{held_of}
use Rattle.client_rules.specs.Messages.{on_need, on_call}
use Rattle.client_rules.specs.Results.{layouts_in}
use Rattle.world_history.specs.ServerNames.{Slot}
use Rattle.world_history.specs.ClientNames.{Client, Call, CallOp, Request, TimedOut, IoErr, Outcome, Need, First, Get, Commit, Report, Close, Phase, Starts, Needs, Waits, Reads, Probes, Gathers, Scatters}
use Rattle.layout_ops.specs.declared.statuses.TheConstants.{LAYOUTIOMODE4_RW}
use Rattle.world_history.specs.Handed.{pending_op}
use Rattle.fence_law.specs.Words.{In as InRun}
use Rattle.fence_law.specs.State.{State, Grant}
use Rattle.fence_law.specs.State as machine
use Rattle.fence_law.specs.State.{Event as event}
use Rattle.fence_law.specs.State.RequestKind.{Get as Gets, Return}
use Rattle.fence_law.specs.Machine.{after, after_all}
use Rattle.fence_law.proofs.Slots.{Slots}
use Rattle.fence_law.proofs.Holds.{Holds}
use Rattle.fence_law.proofs.Commands.{Calls}
use Rattle.file_simulation.specs.ClientEvents as table
use Rattle.file_simulation.specs.Requests.{Own, phase_of, return_class, class_by, class_of, kept_by, Gives, GivesIn, IsWaiting, ClassIs, IsOutstanding}
use Rattle.file_simulation.specs.Calls.{IsClient, CallOn, CallAt, WaitIs, HeldIs, HoldsNone, reports_on, is_taken}
use Rattle.relation_law.specs.CallsTurns.{IsMid}
use Rattle.relation_law.specs.CallsFits.{IsReturn, IsGet, IsCommit, AnswerFits}
use Rattle.relation_law.proofs.CallsFrames.{spares}
use Rattle.relation_law.proofs.CallsSpared.{client_spared}
use Rattle.relation_law.proofs.CallsAnswered.{IsUnasked, answered_client}
use Rattle.relation_law.proofs.CallsBeside.{unasked_mid}
use Rattle.relation_law.proofs.CallsReturned.{due_taken, first_returned, close_returned, get_answered}
use Rattle.relation_law.proofs.CallsReported.{commit_received, report_received}

-- the slot's last number is that of the request that it answered
slot_at : (t : Option Slot) (r : Request) (a : Answer) → kept_by t r ≡ Some a → last_of t ≡ r.sequence
slot_at None r a e = absurd (cc e)
slot_at (Some t) r a e = eqb-true t.last r.sequence (by_test (t.last == r.sequence) e)
  where
    by_test : (b : Bool) → (if b then Some t.kept else None) ≡ Some a → b ≡ true
    by_test true w = refl
    by_test false w = absurd (cc w)

-- the phase of a call, if there is one
abbrev phase_in : Phase → Option Call → Phase
phase_in p None = p
phase_in p (Some call) = call.phase

-- a phase that waits for no answer is none that waits
other_phase : (op q : CallOp) (p : Phase) (n : Need) → IsUnasked p →
    ◌≡◌ {A = Option Call} (Some (record { op = op; phase = p })) (Some (record { op = q; phase = Waits n })) → ⊥
other_phase op q p n u e = subst IsUnasked (ap (phase_in p) e) u

unasked_by : (p : Phase) → ((n : Need) → p ≡ Waits n → ⊥) → IsUnasked p
unasked_by Starts f = tt
unasked_by (Needs n) f = tt
unasked_by (Reads io) f = tt
unasked_by (Probes io) f = tt
unasked_by (Gathers io) f = tt
unasked_by (Scatters io queue) f = tt
unasked_by (Waits n) f = absurd (f n refl)

clean_return : (p : Phase) → IsUnasked p → return_class (Some p) ≡ Own (Return true)
clean_return Starts u = refl
clean_return (Needs n) u = refl
clean_return (Reads io) u = refl
clean_return (Probes io) u = refl
clean_return (Gathers io) u = refl
clean_return (Scatters io queue) u = refl
clean_return (Waits n) u = absurd u

-- a call on the file that waits for an answer waits so in the machine
pub wait_on : (file : ℕ) (m : RawMap) (s : machine.State) (c : ℕ) (x : Client) (a : Answer) (op : CallOp) (n : Need) →
    (file_of op == file) ≡ true → x.call ≡ Some (record { op = op; phase = Waits n }) → CallAt file m s c (Some a) x.call →
    WaitIs s c op (Some a) n
wait_on file m s c x a op n here is at_call =
    at_here (file_of op == file) here (subst (λ z. CallAt file m s c (Some a) z) is at_call)
  where
    at_here : (b : Bool) → b ≡ true → CallOn b m s c (record { op = op; phase = Waits n }) (Some a) → WaitIs s c op (Some a) n
    at_here true e w = w
    at_here false e w = absurd (true≢false (sym e))

module _ (file : ℕ) (m : RawMap) (c : ℕ) (s : State) (slots : Slots s) (holding : Holds s) (calls : Calls s) (x : Client)
    (slot : Option Slot) (a : Answer) (r : Request) (kept : kept_by slot r ≡ Some a) (k : IsClient file m s c x (Some a))
    (agree : IsOutstanding file m s slot c x r) (slot_same : s.slot c ≡ last_of slot) (fits : AnswerFits file x a r) where
  abbrev y : Client
  y = answered_client x

  abbrev Received : Type 0
  Received = IsMid file m (after_all s (table.answered s file c x a (Some r))) c None (pending_op x) (on_call (quiet y) x.call a)

  -- ---- on another file

  off_file : (r.file == file) ≡ false → Received
  off_file off =
      let t : State = after s (event.TakesOther c) in
      rw off (unasked_mid file m c t x (Some a)
      (client_spared s t c (spares c s (event.TakesOther c) tt) file m x (Some a) k) fits.needs a free)
    where
      free : (call : Call) → x.call ≡ Some call → (file_of call.op == file) ≡ true → IsUnasked call.phase
      free call is here = unasked_by call.phase (λ n e.
          let w = fits.waits call.op n (is ∙ ap (λ (p : Phase). Some (record { op = call.op; phase = p })) e) in
          true≢false (sym here ∙ ap (λ (f : ℕ). f == file) (sym w.0) ∙ off))

  -- ---- on the file

  module _ (here : (r.file == file) ≡ true) where
    class_is : (kind : machine.RequestKind) → class_by (phase_of x.call) r.args ≡ Own kind → IsWaiting m s c x kind (Some a)
    unfolding class_of
    class_is kind e =
        let w : ClassIs m s c x (kept_by slot r) (class_of file x r) = agree.waits in
        let same : class_of file x r ≡ Own kind = rw here e in
        subst (λ o. IsWaiting m s c x kind o) kept (subst (λ z. ClassIs m s c x (kept_by slot r) z) same w)

    own_events : (z : Args) → r.args ≡ z → table.answered s file c x a (Some r) ≡ table.answered_here s c a (phase_of x.call) z
    own_events z e = rw (here, e) refl

    -- a return that was due
    due_back : ((call : Call) → x.call ≡ Some call → IsUnasked call.phase) → (z : Args) → r.args ≡ z → IsReturn z → Received
    due_back free (args.LayoutReturn b) e ret =
        let class_e : class_by (phase_of x.call) r.args ≡ Own (Return true) = rw e (clean x.call free) in
        let w = class_is (Return true) class_e in
        let events : table.answered s file c x a (Some r) ≡ event.Takes c None a.size ∷ [] =
        own_events (args.LayoutReturn b) e ∙ ap (table.return_answered s c a) (clean x.call free) in
        rw events (unasked_mid file m c (after s (event.Takes c None a.size)) x None
        (due_taken file m c s holding calls x (Some a) k w.waiting a.size (λ call is h. free call is)) fits.needs a
        (λ call is h. free call is))
      where
        clean : (z : Option Call) → ((call : Call) → z ≡ Some call → IsUnasked call.phase) →
            return_class (phase_of z) ≡ Own (Return true)
        clean None f = refl
        clean (Some call) f = clean_return call.phase (f call refl)
    due_back free (args.LayoutGet b) e ret = absurd ret
    due_back free (args.LayoutCommit b) e ret = absurd ret

    -- the answer that a call waits for
    module _ (op : CallOp) (n : Need) (is : x.call ≡ Some (record { op = op; phase = Waits n })) where
      on_file : (file_of op == file) ≡ true
      on_file = ap (λ (f : ℕ). f == file) (sym (fits.waits op n is).0) ∙ here

      wait_is : WaitIs s c op (Some a) n
      wait_is = wait_on file m s c x a op n on_file is k.call

      -- what comes of it
      abbrev Goal : machine.State → Type 0
      Goal t = IsMid file m t c None (Some op) (on_need (quiet y) op n a)

      received : (z : Args) → r.args ≡ z → Goal (after_all s (table.answered_here s c a (Some (Waits n)) z)) → Received
      received z e w =
          let events : table.answered s file c x a (Some r) ≡ table.answered_here s c a (Some (Waits n)) z =
          own_events z e ∙ ap (λ (p : Option Call). table.answered_here s c a (phase_of p) z) is in
          let op_is : pending_op x ≡ Some op = rw is refl in
          rw (events, op_is)
          (subst
          (λ (v : Option Call). IsMid file m (after_all s (table.answered_here s c a (Some (Waits n)) z)) c None (Some op)
          (on_call (quiet y) v a)) (sym is) w)

      waiting_for : (kind : machine.RequestKind) (z : Args) → r.args ≡ z → class_by (Some (Waits n)) z ≡ Own kind →
          IsWaiting m s c x kind (Some a)
      waiting_for kind z e f = class_is kind (rw (is, e) f)

    first_back : (op : CallOp) → x.call ≡ Some (record { op = op; phase = Waits First }) → (z : Args) → r.args ≡ z →
        IsReturn z → Received
    first_back op is (args.LayoutReturn b) e ret =
        let w = waiting_for op First is (Return true) (args.LayoutReturn b) e refl in
        received op First is (args.LayoutReturn b) e
        (first_returned file m c s holding calls x (Some a) k w.waiting op (on_file op First is) a.size (wait_is op First is))
    first_back op is (args.LayoutGet b) e ret = absurd ret
    first_back op is (args.LayoutCommit b) e ret = absurd ret

    close_back : (op : CallOp) (u : Outcome) (report : List IoErr) →
        x.call ≡ Some (record { op = op; phase = Waits (Close u report) }) → (z : Args) → r.args ≡ z → IsReturn z → Received
    close_back op u [] is (args.LayoutReturn b) e ret =
        let w = waiting_for op (Close u []) is (Return true) (args.LayoutReturn b) e refl in
        received op (Close u []) is (args.LayoutReturn b) e
        (close_returned file m c s holding calls x (Some a) k w.waiting op (on_file op (Close u []) is) a.size u
        (wait_is op (Close u []) is) (λ t i. fits.closes op u [] is t c i))
    close_back op u (i ∷ es) is (args.LayoutReturn b) e ret =
        let w = waiting_for op (Close u (i ∷ es)) is (Return false) (args.LayoutReturn b) e refl in
        received op (Close u (i ∷ es)) is (args.LayoutReturn b) e
        (close_returned file m c s holding calls x (Some a) k w.waiting op (on_file op (Close u (i ∷ es)) is) a.size u
        (wait_is op (Close u (i ∷ es)) is) (λ t q. fits.closes op u (i ∷ es) is t c q))
    close_back op u report is (args.LayoutGet b) e ret = absurd ret
    close_back op u report is (args.LayoutCommit b) e ret = absurd ret

    commit_back : (op : CallOp) (timed : List TimedOut) → x.call ≡ Some (record { op = op; phase = Waits (Commit timed) }) →
        (z : Args) → r.args ≡ z → IsCommit z → Received
    commit_back op timed is (args.LayoutCommit b) e ret =
        let w = wait_is op (Commit timed) is in
        received op (Commit timed) is (args.LayoutCommit b) e
        (commit_received file m c s calls x a k op (on_file op (Commit timed) is) timed is w.0 w.1 (fits.commits op timed is))
    commit_back op timed is (args.LayoutGet b) e ret = absurd ret
    commit_back op timed is (args.LayoutReturn b) e ret = absurd ret

    report_back : (op : CallOp) (timed : List TimedOut) → x.call ≡ Some (record { op = op; phase = Waits (Report timed) }) →
        (z : Args) → r.args ≡ z → IsReturn z → Received
    report_back op timed is (args.LayoutReturn b) e ret =
        let w = wait_is op (Report timed) is in
        let on = on_file op (Report timed) is in
        let gone = fits.reports op timed is on in
        received op (Report timed) is (args.LayoutReturn b) e
        (report_received file m c s calls x a k op on timed gone w.0 (none_so on gone) w.1)
      where
        none_so : (file_of op == file) ≡ true → held_of x.held file ≡ None → is_loss_taken a ≡ true → s.held c ≡ None
        none_so on gone taken = by_loss (is_loss_taken a) taken
            (by_here (file_of op == file) on
            (subst (λ z. HoldsNone s c x.outstanding (reports_on file z && not (is_taken (Some a)))) is
            (subst (λ z. HeldIs file m s c x (Some a) z) gone k.held)))
          where
            by_here : (b : Bool) → b ≡ true → HoldsNone s c x.outstanding ((b && true) && not (is_loss_taken a)) →
                HoldsNone s c x.outstanding (not (is_loss_taken a))
            by_here true e w = w
            by_here false e w = absurd (true≢false (sym e))

            by_loss : (b : Bool) → b ≡ true → HoldsNone s c x.outstanding (not b) → s.held c ≡ None
            by_loss true e w = w
            by_loss false e w = absurd (true≢false (sym e))
    report_back op timed is (args.LayoutGet b) e ret = absurd ret
    report_back op timed is (args.LayoutCommit b) e ret = absurd ret

    get_back : (op : CallOp) (tries : ℕ) → x.call ≡ Some (record { op = op; phase = Waits (Get tries) }) →
        (z : Args) → r.args ≡ z → IsGet z → Received
    get_back op tries is (args.LayoutGet b) e ret =
        let w = waiting_for op (Get tries) is (Gets (b.iomode == LAYOUTIOMODE4_RW)) (args.LayoutGet b) e refl in
        let op_is : pending_op x ≡ Some op = rw is refl in
        let gives : GivesIn m a (Some op) (layouts_in a.results) w.answer.grant =
        subst (λ z. Gives m a z w.answer.grant) op_is w.answer.gives in
        received op (Get tries) is (args.LayoutGet b) e
        (get_answered file m c s holding calls x (Some a) k w.waiting op (on_file op (Get tries) is) a (wait_is op (Get tries) is)
        tries w.answer.grant gives
        (λ z i. k.fresh z a.size w.waiting (subst (λ o. InRun (record {
          client = c;
          sequence = s.sequence c;
          grant = o;
          size = a.size;
        }) s.answers) i w.answer.sent))
        (kept_is w.answer.grant w.answer.sent))
      where
        kept_is : (g : Option Grant) →
            InRun (record { client = c; sequence = s.sequence c; grant = g; size = a.size }) s.answers →
            s.kept_grant c ≡ g
        kept_is g i =
            let told = slots.told (record { client = c; sequence = s.sequence c; grant = g; size = a.size }) i in
            sym (told.1 (sym agree.sequence ∙ sym (slot_at slot r a kept) ∙ sym slot_same))
    get_back op tries is (args.LayoutCommit b) e ret = absurd ret
    get_back op tries is (args.LayoutReturn b) e ret = absurd ret

    need_back : (op : CallOp) (n : Need) → x.call ≡ Some (record { op = op; phase = Waits n }) → Received
    need_back op First is = first_back op is r.args refl (fits.waits op First is).1
    need_back op (Get tries) is = get_back op tries is r.args refl (fits.waits op (Get tries) is).1
    need_back op (Commit timed) is = commit_back op timed is r.args refl (fits.waits op (Commit timed) is).1
    need_back op (Report timed) is = report_back op timed is r.args refl (fits.waits op (Report timed) is).1
    need_back op (Close u report) is = close_back op u report is r.args refl (fits.waits op (Close u report) is).1

    -- no call waits
    none_waits : ((op : CallOp) (n : Need) → x.call ≡ Some (record { op = op; phase = Waits n }) → ⊥) → Received
    none_waits none =
        due_back (λ call is. unasked_by call.phase (λ n e.
        none call.op n (is ∙ ap (λ (p : Phase). Some (record { op = call.op; phase = p })) e))) r.args refl (fits.due none)

    by_phase : (op : CallOp) (p : Phase) → x.call ≡ Some (record { op = op; phase = p }) → Received
    by_phase op (Waits n) is = need_back op n is
    by_phase op Starts is = none_waits (λ q n e. other_phase op q Starts n tt (sym is ∙ e))
    by_phase op (Needs i) is = none_waits (λ q n e. other_phase op q (Needs i) n tt (sym is ∙ e))
    by_phase op (Reads io) is = none_waits (λ q n e. other_phase op q (Reads io) n tt (sym is ∙ e))
    by_phase op (Probes io) is = none_waits (λ q n e. other_phase op q (Probes io) n tt (sym is ∙ e))
    by_phase op (Gathers io) is = none_waits (λ q n e. other_phase op q (Gathers io) n tt (sym is ∙ e))
    by_phase op (Scatters io queue) is = none_waits (λ q n e. other_phase op q (Scatters io queue) n tt (sym is ∙ e))

    by_call : (z : Option Call) → x.call ≡ z → Received
    by_call None is = none_waits (λ q n e. cc (sym is ∙ e))
    by_call (Some call) is = by_phase call.op call.phase is

  -- the answer is taken
  pub answered_mid : Received
  answered_mid = elim (cases_Bool (r.file == file)) [
    | inl here ↦ by_call here x.call refl
    | inr off ↦ off_file off
  ]
