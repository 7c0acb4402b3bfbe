-- What the begin and the end of a client's turn ask: its call begins with a plan, its commands go out under the grant that it
-- holds, and where it asks it waits for nothing.
-- Towards `CallsGoOn` (`relation_law/specs/Steps.antt`).
use Rattle.std.proofs.Common.{◌≡◌, ◌==◌, ◌<◌, ◌≤◌, ◌^◌, ℕ, Bool, true, false, List, [], ◌∷◌, ◌++◌, Option, Some, None, refl, sym, ap, subst, ◌∙◌, inl, inr, arith}
use Rattle.std.proofs.lemmas.Bool.{cases_Bool, eqb-true}
use Rattle.data_map.specs.declared.check.RawMap.{RawMap}
use Rattle.layout_ops.specs.declared.messages.Answer.{Answer}
use Rattle.osd_commands.specs.declared.replies.Reply.{Reply}
use Rattle.server_rules.specs.Laws.{In}
use Rattle.client_rules.specs.declared.limits.TheConstants.{PERFORMED, OTHER_TAG, NONCES}
use Rattle.client_rules.specs.Calls.{file_of, is_write, span_of, bytes_of}
use Rattle.client_rules.specs.Going.{quiet, begins, begun, by_turn, with_held, progressed, progress_free, progress_call, progress_phase}
use Rattle.client_rules.specs.Grants.{covers, held_of}
use Rattle.client_rules.specs.History.{Input, step}
use Rattle.client_rules.specs.Io.{awaited_in, outs}
use Rattle.client_rules.specs.Messages.{Step, finished}
use Rattle.client_rules.specs.Replies.{replied, timed_out}
use Rattle.history_law.specs.Turns.{AnswerComes, with_start}
use Rattle.history_law.proofs.Turns.{each_begin}
use Rattle.world_history.specs.ServerNames.{Slot}
use Rattle.world_history.specs.ClientNames.{Awaited, Client, Call, CallOp, Done, Held, Io, Lost, Close, Outcome, Phase, Starts, Needs, Waits, Reads, Probes, Gathers, Scatters, Request, Silent, Store, Turn, Goes, Ends, Forgets}
use Rattle.world_history.specs.Handed.{op_in}
use Rattle.exchange_law.proofs.PlaceMoving.{covered}
use Rattle.fence_law.specs.State.{State, Event, Grant}
use Rattle.fence_law.specs.State.{Event as event}
use Rattle.fence_law.specs.Machine.{after_all}
use Rattle.fence_law.proofs.Holds.{Holds}
use Rattle.fence_law.proofs.Slots.{Slots}
use Rattle.fence_law.proofs.Safe.{Safe}
use Rattle.file_simulation.specs.Calls.{IsClient, IsHolding, HeldIs}
use Rattle.file_simulation.specs.ClientEvents as table
use Rattle.file_simulation.specs.EventLists.{where_so}
use Rattle.file_simulation.specs.Requests.{kept_for, kept_by}
use Rattle.relation_law.specs.CallsCases.{IsTurn, Begins, Answered, Replied, Timed, Stays}
use Rattle.relation_law.specs.CallsTurns.{IsMid, IsStarting, IsWorking, WritesSome, ReadsWait}
use Rattle.relation_law.proofs.CallsHeard.{moved_out, moved_next, call_next}
use Rattle.relation_law.proofs.CallsMid.{AsksOfBegin, begun_mid}
use Rattle.relation_law.proofs.CallsOwn.{EndsWell}
use Rattle.relation_law.proofs.CallsSettled.{WorkFits}
use Rattle.relation_law.proofs.CallsStarts.{PlanFits}
use Rattle.relation_law.proofs.CallsTells.{CommandsFit}
use Rattle.relation_law.proofs.CallsTurned.{EndFits}
use Rattle.relation_law.proofs.CallsWhole.{told_end, with_outcome, outcome_stays, begun_outstanding}
use Rattle.relation_law.proofs.MessagesAlways.{Any, on_call_fine, replied_done, timed_done, has_bytes}
use Rattle.relation_law.proofs.MessagesClients.{IsUsable, IsFit}
use Rattle.relation_law.proofs.MessagesGathers.{HasBytes, begin_writable}
use Rattle.relation_law.proofs.MessagesRun.{CallFits, IsFine, FineDone, call_bytes, finishes}
use Rattle.relation_law.proofs.MessagesSends.{component_is}
use Rattle.relation_law.proofs.MessagesTurns.{begun_fits}
use Rattle.relation_law.specs.Working.{WorksUnder, CallWorks, ClientWorks, SentIn, DoneWorks}
use Rattle.file_simulation.specs.Messages.{is_scatter}
use Rattle.relation_law.proofs.SomeWrites.{some_stores}
use Rattle.relation_law.proofs.WorksRun.{free_call, none_sent, begun_works, answered_works, replied_done as replied_works, timed_done as timed_works}

-- ---- the begin

-- a write that can be written sends something
pub writes_some : (h : Held) (op : CallOp) → IsUsable h → HasBytes op → covers h op ≡ true → is_write op ≡ true →
    WritesSome h op []
writes_some h op u has cover is got none =
    some_stores h.map (span_of op) (outs h []) u.checked (has.some is).some
    (begin_writable h op u is (covered h op cover)) (bytes_of op) got none

-- and no read is answered at its begin
pub reads_wait : (h : Held) (op : CallOp) → IsUsable h → HasBytes op → covers h op ≡ true → ReadsWait h op
reads_wait h op u has cover bytes e =
    let fits = begun_fits h op u has cover in
    let ends = rw e at fits.turn in
    absurd (ends.2.some refl)

-- ---- events leave what the client waits for

module _ (s : State) (c : ℕ) where
  abbrev Waits_ : List Event → Type 0
  Waits_ es = (after_all s es).waiting ≡ s.waiting

  performed_waits : (a : Awaited) (p : Phase) → Waits_ (table.performed s c a p)
  performed_waits a (Scatters io queue) = refl
  performed_waits a Starts = refl
  performed_waits a (Needs n) = refl
  performed_waits a (Waits n) = refl
  performed_waits a (Reads io) = refl
  performed_waits a (Probes io) = refl
  performed_waits a (Gathers io) = refl

  refused_waits : (b : Bool) (p : Phase) → Waits_ (table.refused s c p ++ where_so b (event.Forgets c ∷ []))
  refused_waits true (Scatters io queue) = refl
  refused_waits true Starts = refl
  refused_waits true (Needs n) = refl
  refused_waits true (Waits n) = refl
  refused_waits true (Reads io) = refl
  refused_waits true (Probes io) = refl
  refused_waits true (Gathers io) = refl
  refused_waits false (Scatters io queue) = refl
  refused_waits false Starts = refl
  refused_waits false (Needs n) = refl
  refused_waits false (Waits n) = refl
  refused_waits false (Reads io) = refl
  refused_waits false (Probes io) = refl
  refused_waits false (Gathers io) = refl

  replied_waits : (b : Bool) (a : Awaited) (q : Reply) (p : Phase) → Waits_ (where_so b (table.replied s c a q p))
  replied_waits false a q p = refl
  replied_waits true a q p = elim (cases_Bool (q.verdict == PERFORMED)) [
    | inl t ↦ rw t (performed_waits a p)
    | inr f ↦ rw f (refused_waits (q.verdict == OTHER_TAG) p)
  ]

  turned_waits : (t : Turn) → Waits_ (table.turned s c t)
  turned_waits (Ends (Silent k)) = refl
  turned_waits (Ends (Lost ps)) = refl
  turned_waits (Goes (Needs (Close u (e ∷ es)))) = refl
  turned_waits t = refl

  timed_waits : (b : Bool) (t : Turn) → Waits_ (where_so b (table.turned s c t))
  timed_waits false t = refl
  timed_waits true t = turned_waits t

-- ---- commands

-- what a call on the file awaits fits its grant
pub fit_all : (y : Client) (call : Call) → y.call ≡ Some call → (h : Held) → WorksUnder h call.phase →
    (cs : List Awaited) → ((a : Awaited) → In a cs → In a (awaited_in call.phase)) →
    CommandsFit y h (is_scatter call.phase) cs
fit_all y call is h z [] each = tt
fit_all y call is h z (a ∷ cs) each =
    let there = each a (inl refl) in
    let one = z.ones a there in (
      record {
        action = one.action;
        named = component_is y y.call call (awaited_in call.phase) a is refl z.nonces.differ there;
        offset = one.offset;
        nonce = z.nonces.below a there;
      },
      fit_all y call is h z cs (λ b j. each b (inr j)),
    )

-- ---- a turn

-- a call that works asks nothing
pub works_asks_none : (d : Done) (call : Call) → d.client.call ≡ Some call → IsWorking call.phase → progressed d ≡ d
unfolding progressed
works_asks_none d call is work = by_request d.client.outstanding
  where
    by_phase : (p : Phase) → IsWorking p → progress_phase d call.op p ≡ d
    by_phase (Reads io) z = refl
    by_phase (Probes io) z = refl
    by_phase (Gathers io) z = refl
    by_phase (Scatters io queue) z = refl
    by_phase p z = absurd z

    by_call : (o : Option Call) → d.client.call ≡ o → progress_call d o ≡ d
    by_call None e = absurd (cc (sym is ∙ e))
    by_call (Some y) e =
        let same : call ≡ y = cc (sym is ∙ e) in
        subst (λ (z : Call). progress_phase d z.op z.phase ≡ d) same (by_phase call.phase work)

    by_request : (o : Option Request) → progress_free d o ≡ d
    by_request None = by_call d.client.call refl
    by_request (Some r) = refl

module _ (file : ℕ) (m : RawMap) (c : ℕ) (s : State) (x : Client) (slot : Option Slot)
    (k : IsClient file m s c x (kept_for slot x.outstanding)) (i : Input) where
  -- the machine behind the first line, and behind the one that tells how the call ended
  abbrev pub first_at : State
  first_at = after_all s (table.at_first s file c x i)

  abbrev pub told_at : Option Outcome → State
  told_at None = after_all s (table.at_first s file c x i)
  told_at (Some u) =
      after_all (after_all s (table.at_first s file c x i))
      (table.ended (after_all s (table.at_first s file c x i)) file c (op_in x i) (Some u))

  -- The plan of a write that starts in the turn is that of its entry.
  abbrev pub PlansFit : Type 0
  PlansFit =
      (es : List Event) (d : Done) → table.at_first s file c x i ≡ es → IsTurn file s c x i es d → FineDone Any d →
      (call : Call) (io : Io) (queue : List Store) (h : Held) →
      (is : (begun d).client.call ≡ Some call) → call.phase ≡ Scatters io queue →
      (here : (file_of call.op == file) ≡ true) → (holds : held_of (begun d).client.held file ≡ Some h) → (g : Grant) →
      (after_all s es).held c ≡ Some g → op_in x i ≡ Some call.op → IsHolding m (after_all s es) c h →
      IsStarting m (after_all s es) c call.op io queue (begun d).commands →
      PlanFits file c (begun d).client call is here h holds m (after_all s es) g io queue (begun d).commands

  -- What is known of the client, and of the machine in its turn.
  pub record TurnFacts : Type 0 where
    pub fine : IsFine x
    pub works : ClientWorks x
    pub rests : x.outstanding ≡ None → s.waiting c ≡ false
    pub rested : (a : Answer) → AnswerComes x i a → (after_all s (table.answered s file c x a x.outstanding)).waiting c ≡ false
    pub unanswered : (r : Request) → r.sequence ≡ x.next → kept_by slot r ≡ None
    pub counts : (n : ℕ) (h : Held) → held_of (step x i).client.held n ≡ Some h → h.count < NONCES
    pub safe : (u : Option Outcome) → (step x i).outcome ≡ u → Safe (told_at u)
    pub next : (u : Option Outcome) → (step x i).outcome ≡ u → (told_at u).next ≤ 2 ^ 32
    pub waits : (u : Option Outcome) → (told_at u).waiting ≡ first_at.waiting
    pub first : Safe (after_all s (table.at_first s file c x i))
    pub plans : PlansFit

  module _ (facts : TurnFacts) (es : List Event) (at : table.at_first s file c x i ≡ es) (d : Done)
      (is_step : step x i ≡ finished d) (turn : IsTurn file s c x i es d)
      (w : IsMid file m (after_all s es) c (kept_for slot d.client.outstanding) (op_in x i) d) where
    -- what the call has of the drives
    fine_done : FineDone Any d
    fine_done = by_turn turn
      where
        as_it_is : (y : Done) → y.client.call ≡ x.call → y.client.held ≡ x.held → y.outcome ≡ None → FineDone Any y
        as_it_is y call held none = record {
          usable = rw held facts.fine.usable;
          call = rw (held, call) facts.fine.call;
          outcome = rw none tt;
        }

        by_turn : IsTurn file s c x i es d → FineDone Any d
        by_turn (Begins op is none some none_es e) =
            rw e (record { usable = facts.fine.usable; call = (has_bytes op some, λ h there. tt); outcome = tt })
        by_turn (Answered a n es_is e) =
            rw e (on_call_fine (quiet (record x { outstanding = None })) x.call a refl
            (record { usable = facts.fine.usable; call = facts.fine.call; outcome = tt }))
        by_turn (Replied drive q call h a n es_is e) =
            rw e (replied_done x i facts.fine Any drive q call h a n (λ bytes z. tt))
        by_turn (Timed n call h a xs t es_is e) =
            rw e (timed_done x i facts.fine Any n call h a xs t (λ bytes z. tt))
        by_turn (Stays es_is call held out next sent none) = as_it_is d call held none

    pub works_done : DoneWorks d
    works_done = by_turn turn
      where
        as_it_is : (y : Done) → y.client.call ≡ x.call → y.client.held ≡ x.held → y.commands ≡ [] → DoneWorks y
        as_it_is y call held sent = record {
          call = rw (held, call) facts.works;
          sent = none_sent y.commands y.client.call sent;
        }

        by_turn : IsTurn file s c x i es d → DoneWorks d
        by_turn (Begins op is none some none_es e) =
            rw e (record { call = free_call _ op Starts refl (λ z. z) tt; sent = λ b j. j })
        by_turn (Answered a n es_is e) = rw e (answered_works x a facts.works x.call)
        by_turn (Replied drive q call h a n es_is e) = rw e (replied_works x facts.works i drive q call h a n)
        by_turn (Timed n call h a xs t es_is e) = rw e (timed_works x facts.works i n call h a xs t)
        by_turn (Stays es_is call held out next sent none) = as_it_is d call held sent

    -- ---- the begin

    begin : AsksOfBegin file m c (kept_for slot d.client.outstanding) (after_all s es) (op_in x i) d w
    begin op h is held here cover =
        let u : IsUsable h = fine_done.usable (file_of op) h held in
        let has : HasBytes op =
        call_bytes d.client.held d.client.call (record { op = op; phase = Starts }) is fine_done.call in
        (writes_some h op u has cover, reads_wait h op u has cover)

    -- ---- the machine

    outcome_is : (u : Option Outcome) → (begun d).outcome ≡ u → (step x i).outcome ≡ u
    unfolding finished
    outcome_is u e = rw is_step (outcome_stays (begun d) ∙ e)

    same_told : (u : Option Outcome) → told_at u ≡ told_end file m c slot (after_all s es) (op_in x i) d w begin u
    same_told None = ap (after_all s) at
    same_told (Some u) =
        ap (λ (l : List Event). after_all (after_all s l) (table.ended (after_all s l) file c (op_in x i) (Some u))) at

    safe_told : Safe (told_end file m c slot (after_all s es) (op_in x i) d w begin (begun d).outcome)
    safe_told =
        subst Safe (same_told (begun d).outcome) (facts.safe (begun d).outcome (outcome_is (begun d).outcome refl))

    -- the client waits for nothing, unless a request is outstanding
    first_free : d.client.outstanding ≡ None → (after_all s es).waiting c ≡ false
    first_free out = by_turn turn
      where
        rests_on : (after_all s es).waiting ≡ s.waiting → x.outstanding ≡ None → (after_all s es).waiting c ≡ false
        rests_on same none = ap (λ (f : ℕ → Bool). f c) same ∙ facts.rests none

        kept_out : (y : Client) (z : Done) → d ≡ z → z.client.outstanding ≡ x.outstanding → x.outstanding ≡ None
        kept_out y z e same = sym same ∙ ap (λ (q : Done). q.client.outstanding) (sym e) ∙ out

        by_turn : IsTurn file s c x i es d → (after_all s es).waiting c ≡ false
        by_turn (Begins op is none some none_es e) =
            rests_on (ap (λ (l : List Event). (after_all s l).waiting) none_es) (kept_out x (quiet (with_start x op)) e refl)
        by_turn (Answered a n es_is e) = rw es_is (facts.rested a n)
        by_turn (Replied drive q call h a n es_is e) =
            rests_on (ap (λ (l : List Event). (after_all s l).waiting) es_is
            ∙ replied_waits s c (file_of call.op == file) a q call.phase)
            (kept_out x _ e (moved_out x call.op (replied h call.op call.phase a q)))
        by_turn (Timed n call h a xs t es_is e) =
            rests_on (ap (λ (l : List Event). (after_all s l).waiting) es_is
            ∙ timed_waits s c (file_of call.op == file) (timed_out h call.op call.phase n a xs).turn)
            (kept_out x _ e (moved_out x call.op (timed_out h call.op call.phase n a xs)))
        by_turn (Stays es_is call held same next sent none) =
            rests_on (ap (λ (l : List Event). (after_all s l).waiting) es_is) (sym same ∙ out)

    free : (begun d).client.outstanding ≡ None →
        (told_end file m c slot (after_all s es) (op_in x i) d w begin (begun d).outcome).waiting c ≡ false
    free out =
        let first : (after_all s es).waiting c ≡ false = first_free (sym (begun_outstanding d) ∙ out) in
        ap (λ (t : State). t.waiting c) (sym (same_told (begun d).outcome))
        ∙ ap (λ (f : ℕ → Bool). f c) (facts.waits (begun d).outcome)
        ∙ ap (λ (l : List Event). (after_all s l).waiting c) at ∙ first

    -- requests have the client's next number still
    next_same : d.client.next ≡ x.next
    next_same = by_turn turn
      where
        by_turn : IsTurn file s c x i es d → d.client.next ≡ x.next
        by_turn (Begins op is none some none_es e) = rw e refl
        by_turn (Answered a n es_is e) = rw e (call_next (quiet (record x { outstanding = None })) a x.call)
        by_turn (Replied drive q call h a n es_is e) = rw e (moved_next x call.op (replied h call.op call.phase a q))
        by_turn (Timed n call h a xs t es_is e) =
            rw e (moved_next x call.op (timed_out h call.op call.phase n a xs))
        by_turn (Stays es_is call held out next sent none) = next

    -- ---- what goes out

    pub begun_done : DoneWorks (begun d)
    begun_done = begun_works d works_done

    begun_fine : FineDone Any (begun d)
    begun_fine = each_begin d (FineDone Any) (record {
      stays = fine_done;
      needs = λ op n is out first. (finishes Any).needs d op n fine_done is out first;
      begun = λ op h is held cover. (finishes Any).begun d op h fine_done is held cover;
    })

    begun_next : (begun d).client.next ≡ d.client.next
    begun_next = each_begin d (λ (e : Done). e.client.next ≡ d.client.next) (record {
      stays = refl;
      needs = λ op n is out first. refl;
      begun = λ op h is held cover. turn_next (record (with_held d (begins h op).held) { commands = (begins h op).sent }) op
          (begins h op).turn refl;
    })
      where
        turn_next : (b : Done) (op : CallOp) (t : Turn) → b.client.next ≡ d.client.next →
            (by_turn b op t).client.next ≡ d.client.next
        turn_next b op (Goes p) e = e
        turn_next b op (Ends u) e = e
        turn_next b op (Forgets u) e = e

    mid : IsMid file m (after_all s es) c (kept_for slot d.client.outstanding) (op_in x i) (begun d)
    mid = begun_mid file m c (kept_for slot d.client.outstanding) (after_all s es) (op_in x i) d w begin

    module _ (call : Call) (is : (begun d).client.call ≡ Some call) (here : (file_of call.op == file) ≡ true) where
      at_file : held_of (begun d).client.held (file_of call.op) ≡ held_of (begun d).client.held file
      at_file = ap (held_of (begun d).client.held) (eqb-true (file_of call.op) file here)

      its : CallWorks (begun d).client.held (Some call)
      its = subst (CallWorks (begun d).client.held) is begun_done.call

      holds : IsWorking call.phase → (h : Held) × (held_of (begun d).client.held file ≡ Some h)
      holds z = let r = its.0 z in (r.0, sym at_file ∙ r.1)

      commands_fit : (h : Held) → held_of (begun d).client.held file ≡ Some h →
          CommandsFit (begun d).client h (is_scatter call.phase) (begun d).commands
      commands_fit h held =
          fit_all (begun d).client call is h (its.1 h (at_file ∙ held)) (begun d).commands
          (subst (SentIn (begun d).commands) is begun_done.sent)

      fit : (h : Held) → held_of (begun d).client.held file ≡ Some h → (p : Phase) → call.phase ≡ p → IsFit h call.op p
      fit h held p e =
          let all : CallFits (begun d).client.held (Some call) = subst (CallFits (begun d).client.held) is begun_fine.call in
          subst (IsFit h call.op) e (all.1 h (at_file ∙ held))

      few : (h : Held) → IsWorking call.phase → held_of (begun d).client.held file ≡ Some h → h.count < NONCES
      unfolding finished
      few h z held =
          facts.counts file h
          (ap (λ (t : Step). held_of t.client.held file) is_step
          ∙ ap (λ (e : Done). held_of e.client.held file) (works_asks_none (begun d) call is z) ∙ held)

      -- by the phase that the call comes to
      work_by : (p : Phase) → call.phase ≡ p → (u : Option Outcome) → (begun d).outcome ≡ u →
          WorkFits file m (told_end file m c slot (after_all s es) (op_in x i) d w begin u) c (begun d).client call.op
          (begun d).commands p
      work_by Starts e u out = tt
      work_by (Needs n) e u out = tt
      work_by (Waits n) e u out = tt
      work_by (Reads io) e u out =
          let r = holds (subst IsWorking (sym e) tt) in (
            r.0,
            r.1,
            (fit (r.0) r.1 (Reads io) e).is,
            subst (λ (p : Phase). CommandsFit (begun d).client r.0 (is_scatter p) (begun d).commands) e
                (commands_fit r.0 r.1),
          )
      work_by (Probes io) e u out =
          let r = holds (subst IsWorking (sym e) tt) in (
            r.0,
            r.1,
            (fit (r.0) r.1 (Probes io) e).is,
            subst (λ (p : Phase). CommandsFit (begun d).client r.0 (is_scatter p) (begun d).commands) e
                (commands_fit r.0 r.1),
          )
      work_by (Gathers io) e u out =
          let r = holds (subst IsWorking (sym e) tt) in (
            r.0,
            r.1,
            (fit (r.0) r.1 (Gathers io) e).is,
            subst (λ (p : Phase). CommandsFit (begun d).client r.0 (is_scatter p) (begun d).commands) e
                (commands_fit r.0 r.1),
          )
      work_by (Scatters io queue) e (Some v) out = absurd (cc (sym (mid.ended v out) ∙ is))
      work_by (Scatters io queue) e None out =
          let r = holds (subst IsWorking (sym e) tt) in (
            r.0,
            r.1,
            few r.0 (subst IsWorking (sym e) tt) r.1,
            subst (λ (p : Phase). CommandsFit (begun d).client r.0 (is_scatter p) (begun d).commands) e (commands_fit r.0 r.1),
            λ g y y_is y_here y_holds same has starts.
                let one : call ≡ y = cc (sym is ∙ y_is) in
                facts.plans es d at turn fine_done y io queue r.0 y_is (ap (λ (z : Call). z.phase) (sym one) ∙ e)
                y_here y_holds g has
                (mid.about y y_is)
                (subst (HeldIs file m (after_all s es) c (begun d).client (kept_for slot d.client.outstanding)) y_holds mid.held)
                (subst (λ (o : CallOp). IsStarting m (after_all s es) c o io queue (begun d).commands) (sym same) starts),
          )

    -- ---- the end

    end : (holding : Holds (told_end file m c slot (after_all s es) (op_in x i) d w begin (begun d).outcome))
        (slots : Slots (told_end file m c slot (after_all s es) (op_in x i) d w begin (begun d).outcome))
        (y : IsMid file m (told_end file m c slot (after_all s es) (op_in x i) d w begin (begun d).outcome) c
        (kept_for slot (begun d).client.outstanding) (op_in x i) (with_outcome (begun d) None)) →
        EndFits file m c (told_end file m c slot (after_all s es) (op_in x i) d w begin (begun d).outcome) holding slots
        (op_in x i) slot (with_outcome (begun d) None) y refl
    end holding slots y = record {
      sends = λ call is here. work_by call is here call.phase refl (begun d).outcome refl;
      free = free;
      unanswered = λ r number. facts.unanswered r (number ∙ begun_next ∙ next_same);
      numbers = λ h held.
          let z : IsHolding m (told_end file m c slot (after_all s es) (op_in x i) d w begin (begun d).outcome) c h =
          subst (HeldIs file m (told_end file m c slot (after_all s es) (op_in x i) d w begin (begun d).outcome) c
          (begun d).client (kept_for slot (begun d).client.outstanding)) held y.held in
          let number : z.grant.number ≡ h.number = z.same.same.number ∙ sym z.same.agrees.number in
          let less = (holding.has c z.grant z.held).0 in
          let low : (told_end file m c slot (after_all s es) (op_in x i) d w begin (begun d).outcome).next ≤ 2 ^ 32 =
          subst (λ (t : State). t.next ≤ 2 ^ 32) (same_told (begun d).outcome)
          (facts.next (begun d).outcome (outcome_is (begun d).outcome refl)) in
          omega (arith, number, less, low);
    }

    -- All that the begin and the end of the turn ask is there.
    pub ends_well : EndsWell file m c s x slot k i es d w
    ends_well = record {
      begin = begin;
      formed = (subst Safe (ap (after_all s) at) facts.first).formed;
      holding = safe_told.holds;
      slots = safe_told.slots;
      end = end;
    }
