-- A client's turn behind its first line: the events of its other lines can happen.
use Rattle.std.proofs.Common.{◌≡◌, ◌==◌, ℕ, Bool, true, false, List, map, Option, Some, None, refl, sym, ap, subst, ◌∙◌, inl, inr}
use Rattle.std.proofs.lemmas.Bool.{eqb-true}
use Rattle.data_map.specs.declared.check.RawMap.{RawMap}
use Rattle.server_rules.specs.Laws.{In}
use Rattle.client_rules.specs.Calls.{file_of, span_of}
use Rattle.client_rules.specs.Commands.{nonce_at}
use Rattle.client_rules.specs.Going.{begins, begun, by_turn, progressed, with_held}
use Rattle.client_rules.specs.Grants.{held_of}
use Rattle.client_rules.specs.History.{Input}
use Rattle.client_rules.specs.Messages.{finished, sends_of, to_drive}
use Rattle.client_rules.proofs.ReadSteps.{any_fits, fits_answer}
use Rattle.history_law.proofs.Turns.{each_begin}
use Rattle.world_history.specs.ServerNames.{Slot}
use Rattle.world_history.specs.ClientNames.{Call, CallOp, Client, Done, Held, Io, Outcome, ReadOk, Phase, Starts, Needs, Reads, Probes, Gathers, Scatters, Store, Turn, Goes, Ends, Forgets}
use Rattle.world_history.specs.Handed.{op_in}
use Rattle.world_history.specs.State.{World}
use Rattle.fence_law.specs.Law.{IsCode}
use Rattle.fence_law.specs.Machine.{Allowed, Lawful, after_all}
use Rattle.fence_law.specs.State.{State, Event}
use Rattle.fence_law.specs.State.{Event as event}
use Rattle.fence_law.specs.State.Call.{Writes as AtWrite}
use Rattle.fence_law.proofs.Safe.{Safe, safe_all}
use Rattle.plan_law.specs.FileLayout.{layout_of}
use Rattle.file_simulation.specs.Calls.{IsClient, IsHolding, IsReading, HeldIs}
use Rattle.file_simulation.specs.ClientEvents as table
use Rattle.file_simulation.specs.EventLists.{entry_of}
use Rattle.file_simulation.specs.Events.{joined}
use Rattle.file_simulation.specs.Requests.{kept_for, AwaitsNothing}
use Rattle.file_simulation.specs.Showing.{IsRun}
use Rattle.relation_law.specs.CallsCases.{IsTurn}
use Rattle.relation_law.specs.CallsTurns.{EndIs, IsMid, OutcomeOn, IsWorking, PendsAt, PhaseOn, PhasePends}
use Rattle.relation_law.specs.MessagesSending.{RiseFrom}
use Rattle.relation_law.specs.Requests.{AskingStays}
use Rattle.relation_law.specs.Working.{CallWorks, DoneWorks, SentIn}
use Rattle.file_simulation.specs.Messages.{is_scatter}
use Rattle.relation_law.proofs.CallsMid.{AsksOfBegin}
use Rattle.relation_law.proofs.CallsTells.{CommandsFit}
use Rattle.relation_law.proofs.CallsWhole.{begun_outstanding, mid, mid_by, outcome_apart, outcome_stays, told_end, with_outcome}
use Rattle.relation_law.proofs.CalmRuns.{client_run}
use Rattle.relation_law.proofs.FramesStay.{server_stays_all}
use Rattle.relation_law.proofs.MessagesAlways.{Any}
use Rattle.relation_law.proofs.MessagesBehind.{rise_lower}
use Rattle.relation_law.proofs.MessagesClients.{IsFit, IsUsable}
use Rattle.relation_law.proofs.MessagesGathers.{HasBytes}
use Rattle.relation_law.proofs.MessagesRun.{CallFits, FineDone, call_bytes, finishes}
use Rattle.relation_law.proofs.Plans.{PlanFacts, Source, turn_plan}
use Rattle.relation_law.proofs.ReadsShown.{AllShown}
use Rattle.relation_law.proofs.RequestsLawful.{lawful_more}
use Rattle.relation_law.proofs.RequestsPlain.{asking_stays_all, ended_plain}
use Rattle.relation_law.proofs.Scatters.{begun_plan}
use Rattle.relation_law.proofs.TurnEnds.{fit_all, reads_wait, writes_some}
use Rattle.relation_law.proofs.WorksRun.{begun_works}
use Rattle.headline_law.proofs.ClientAsks.{EndMay, turn_may}
use Rattle.headline_law.proofs.ClientEnded.{MayAnswer, ended_lawful}
use Rattle.headline_law.proofs.ClientGets.{NoneForGet, begun_gets}
use Rattle.headline_law.proofs.ClientMessages.{MaySendThese, messages_lawful, gathers_may, reads_may, sending_may}
use Rattle.headline_law.proofs.ClientRises.{begins_rises}
use Rattle.headline_law.proofs.ClientScatter.{scatter_may}

-- ---- what stays

-- a client that waits for nothing does so behind events of no request
pub still_rests : (t u : State) (c : ℕ) → AskingStays t u → AwaitsNothing t c → AwaitsNothing u c
still_rests t u c e rests = record {
  waiting = ap (λ (z : ℕ → Bool). z c) e.waiting ∙ rests.waiting;
  away = ap (λ (z : ℕ → Bool). z c) e.away ∙ rests.away;
  served = ap (λ (z : ℕ → ℕ). z c) e.slot ∙ rests.served ∙ sym (ap (λ (z : ℕ → ℕ). z c) e.sequence);
}

-- what is said of how a call ends is so behind the begin of a call
begun_fine : (Fit : List ℕ → Type 0) (d : Done) → FineDone Fit d → FineDone Fit (begun d)
begun_fine Fit d fine = each_begin d (FineDone Fit) (record {
  stays = fine;
  needs = λ op n is out first. (finishes Fit).needs d op n fine is out first;
  begun = λ op h is held cover. (finishes Fit).begun d op h fine is held cover;
})

any_fine : (Fit : List ℕ → Type 0) (d : Done) → FineDone Fit d → FineDone Any d
any_fine Fit d fine = record { usable = fine.usable; call = fine.call; outcome = any_fits d.outcome }

-- WRITEs that are still to be sent rise above the client's last nonce
abbrev pub WritesRise : (file c : ℕ) → State → Done → Type 0
WritesRise file c t d =
    (call : Call) → d.client.call ≡ Some call → (file_of call.op == file) ≡ true → is_scatter call.phase ≡ true →
    RiseFrom (t.nonce c) d.commands

begun_rise : (file : ℕ) (m : RawMap) (c : ℕ) (t : State) (d : Done) →
    ((h : Held) → held_of d.client.held file ≡ Some h → IsHolding m t c h) → WritesRise file c t d →
    WritesRise file c t (begun d)
begun_rise file m c t d holds rise = each_begin d (WritesRise file c t) (record {
  stays = rise;
  needs = λ op n is out first call at here scatter.
      absurd (never (Needs n) call.phase (phase_same (record { op = op; phase = Needs n }) call at) refl scatter);
  begun = λ op h is held cover call at here scatter.
      by_turn_is op h held (begins h op).turn call at here;
})
  where
    phase_same : (p q : Call) → Some p ≡ Some q → p.phase ≡ q.phase
    phase_same p q e = cc e

    op_same : (p q : Call) → Some p ≡ Some q → p.op ≡ q.op
    op_same p q e = cc e

    never : (p q : Phase) → p ≡ q → is_scatter p ≡ false → is_scatter q ≡ true → ⊥
    never p q same no_ yes_ = cc (sym yes_ ∙ ap is_scatter (sym same) ∙ no_)

    by_turn_is : (op : CallOp) (h : Held) → held_of d.client.held (file_of op) ≡ Some h → (u : Turn) → (call : Call) →
        (by_turn (record (with_held d (begins h op).held) { commands = (begins h op).sent }) op u).client.call ≡ Some call →
        (file_of call.op == file) ≡ true →
        RiseFrom (t.nonce c) (by_turn (record (with_held d (begins h op).held) { commands = (begins h op).sent }) op u).commands
    by_turn_is op h held (Goes p) call at here =
        let mine : file_of op ≡ file =
        ap file_of (op_same (record { op = op; phase = p }) call at) ∙ eqb-true (file_of call.op) file here in
        let k : IsHolding m t c h = holds h (subst (λ (f : ℕ). held_of d.client.held f ≡ Some h) mine held) in
        rise_lower (nonce_at h h.count) (t.nonce c) (begins h op).sent k.nonce (begins_rises h op).rise
    by_turn_is op h held (Ends v) call at here = absurd (cc at)
    by_turn_is op h held (Forgets v) call at here = absurd (cc at)

-- What is known of a client in the middle of its turn, behind these events. Fit says of which bytes a read is answered.
pub record MidKnown (file : ℕ) (m : RawMap) (c : ℕ) (s : State) (x : Client) (slot : Option Slot) (i : Input)
    (Fit : List ℕ → Type 0) (es : List Event) (d : Done) : Type 0
  where
    pub turn : IsTurn file s c x i es d
    pub there : IsMid file m (after_all s es) c (kept_for slot d.client.outstanding) (op_in x i) d
    pub fine : FineDone Fit d
    pub works : DoneWorks d
    pub gets : NoneForGet d.client
    pub rise : WritesRise file c (after_all s es) d
    pub rests : d.client.outstanding ≡ None → AwaitsNothing (after_all s es) c
    pub answers : (op : CallOp) (bytes : List ℕ) → op_in x i ≡ Some op → (file_of op == file) ≡ true → Fit bytes →
        (j : ℕ) → IsReading (after_all s es) c op j →
        Allowed (after_all s es)
        (event.Answers c (entry_of (after_all s es) c) (table.answer_from (span_of op).offset bytes))

module _ (file : ℕ) (m : RawMap) (c : ℕ) (s : State) (x : Client) (slot : Option Slot)
    (k : IsClient file m s c x (kept_for slot x.outstanding)) (i : Input) (w : World) (facts : PlanFacts file m c s x slot k i w)
    (safe : Safe s) where
  -- the machine behind the first line
  abbrev pub first : State
  first = after_all s (table.at_first s file c x i)

  first_safe : Safe (after_all s (table.at_first s file c x i))
  first_safe = safe_all s (table.at_first s file c x i) facts.lawful safe

  first_run : IsRun (after_all s (table.at_first s file c x i))
  first_run = client_run c s facts.run (table.at_first s file c x i) facts.owned facts.lawful

  layout_same : (after_all s (table.at_first s file c x i)).layout ≡ s.layout
  layout_same = (server_stays_all c s (table.at_first s file c x i) facts.owned).layout

  first_layout : (after_all s (table.at_first s file c x i)).layout ≡ layout_of m facts.tag
  first_layout = layout_same ∙ facts.layout

  first_code : IsCode (after_all s (table.at_first s file c x i)).layout
  first_code = subst IsCode (sym layout_same) facts.code

  module _ (Fit : List ℕ → Type 0) (d : Done) (known : MidKnown file m c s x slot i Fit (table.at_first s file c x i) d) where
    abbrev e : Done
    e = begun d

    fine_any : FineDone Any d
    fine_any = any_fine Fit d known.fine

    begin : AsksOfBegin file m c (kept_for slot d.client.outstanding) first (op_in x i) d known.there
    begin op h is held here cover =
        let u : IsUsable h = known.fine.usable (file_of op) h held in
        let has : HasBytes op =
        call_bytes d.client.held d.client.call (record { op = op; phase = Starts }) is known.fine.call in
        (writes_some h op u has cover, reads_wait h op u has cover)

    -- behind the begin of a call
    at_begun : IsMid file m first c (kept_for slot (begun d).client.outstanding) (op_in x i) (begun d)
    at_begun = mid file m c slot first (op_in x i) d known.there begin

    -- ---- how the call has ended

    abbrev told : Option Outcome → State
    told u = told_end file m c slot first (op_in x i) d known.there begin u

    ended_is : (v : Outcome) → (begun d).outcome ≡ Some v → EndIs file first c (op_in x i) (Some v)
    ended_is v is =
        subst (λ (u : Option Outcome). EndIs file first c (op_in x i) u) is
        (subst
        (λ (z : Option Call). PendsAt file m first c (kept_for slot e.client.outstanding) (op_in x i) e.outcome e.commands z)
        (at_begun.ended v is) at_begun.call)

    -- a read is answered by what it got
    answers_by : (v : Outcome) → (begun d).outcome ≡ Some v → (op : CallOp) → op_in x i ≡ Some op →
        (file_of op == file) ≡ true → MayAnswer first c first_safe.formed op v
    answers_by (ReadOk bytes) is op at here =
        let r : OutcomeOn (file_of op == file) first c op (ReadOk bytes) =
        subst (λ (p : Option CallOp). EndIs file first c p (Some (ReadOk bytes))) at (ended_is (ReadOk bytes) is) in
        let z : (j : ℕ) × IsReading first c op j =
        subst (λ (b : Bool). OutcomeOn b first c op (ReadOk bytes)) here r in
        known.answers op bytes at here (fits_answer Fit e.outcome bytes is (begun_fine Fit d known.fine).outcome) z.0 z.1
    answers_by v is op at here = tt

    ended_may : (v : Outcome) → (begun d).outcome ≡ Some v → Lawful first (table.ended first file c (op_in x i) (Some v))
    ended_may v is = ended_lawful first c first_safe.formed file (op_in x i) v (ended_is v is) (answers_by v is)

    -- ---- messages

    rests_there : (u : Option Outcome) → e.client.outstanding ≡ None → AwaitsNothing (told u) c
    rests_there None out = known.rests (sym (begun_outstanding d) ∙ out)
    rests_there (Some v) out =
        still_rests first (told (Some v)) c
        (asking_stays_all first (table.ended first file c (op_in x i) (Some v)) (ended_plain file c first (op_in x i) (Some v)))
        (known.rests (sym (begun_outstanding d) ∙ out))

    module _ (call : Call) (is : (begun d).client.call ≡ Some call) (here : (file_of call.op == file) ≡ true)
        (working : IsWorking call.phase) where
      begun_done : DoneWorks (begun d)
      begun_done = begun_works d known.works

      its : CallWorks (begun d).client.held (Some call)
      its = subst (CallWorks (begun d).client.held) is begun_done.call

      -- the grant on the file
      abbrev h : Held
      h = (its.0 working).0

      at_op : held_of (begun d).client.held (file_of call.op) ≡ Some (its.0 working).0
      at_op = (its.0 working).1

      at_file : held_of (begun d).client.held file ≡ Some (its.0 working).0
      at_file =
          ap (held_of (begun d).client.held) (sym (eqb-true (file_of call.op) file here)) ∙ (its.0 working).1

      holding : IsHolding m (after_all s (table.at_first s file c x i)) c (its.0 working).0
      holding = subst (HeldIs file m first c (begun d).client (kept_for slot (begun d).client.outstanding)) at_file at_begun.held

      commands_fit : CommandsFit (begun d).client (its.0 working).0 (is_scatter call.phase) (begun d).commands
      commands_fit =
          fit_all (begun d).client call is h (its.1 h at_op) (begun d).commands
          (subst (SentIn (begun d).commands) is begun_done.sent)

      fit : IsFit (its.0 working).0 call.op call.phase
      fit =
          let all : CallFits (begun d).client.held (Some call) =
          subst (CallFits (begun d).client.held) is (begun_fine Fit d known.fine).call in
          all.1 h at_op

      pends : PhasePends m (after_all s (table.at_first s file c x i)) c call.op (kept_for slot (begun d).client.outstanding)
          (begun d).commands call.phase
      pends =
          subst (λ (b : Bool). PhaseOn b m first c call (kept_for slot e.client.outstanding) e.commands) here
          (subst (λ (z : Option Call). PendsAt file m first c (kept_for slot e.client.outstanding) (op_in x i) e.outcome
          e.commands z) is at_begun.call)

      -- WRITEs
      scatters : (io : Io) (queue : List Store) → call.phase ≡ Scatters io queue →
          PhasePends m first c call.op (kept_for slot e.client.outstanding) e.commands (Scatters io queue) →
          CommandsFit e.client h true e.commands → MaySendThese first file c e.client (map to_drive e.commands)
      scatters io queue phase (inl r) cf =
          sending_may file c e.client call is here h at_file first holding.grant io queue e.commands holding.held
          (begun_rise file m c first d
          (λ z held. subst (HeldIs file m first c d.client (kept_for slot d.client.outstanding)) held known.there.held)
          known.rise call is here (ap is_scatter phase)) cf r
      scatters io queue phase (inr starts) cf =
          let es : List Event = table.at_first s file c x i in
          let free : (j : ℕ) → (after_all s es).call c ≡ AtWrite j → ⊥ =
          λ j writes. elim starts.from [
            | inl r ↦ cc (sym writes ∙ r.1.at_)
            | inr idle ↦ cc (sym writes ∙ idle.at_)
          ] in
          let plan =
          begun_plan file (Source file m c s x slot k i w facts es d refl) d (inl refl) fine_any
          (turn_plan file m c s x slot k i w facts es d refl known.turn free) call io queue h is phase here at_op starts.some in
          let usable : IsUsable h = (begun_fine Fit d known.fine).usable (file_of call.op) h at_op in
          scatter_may m facts.tag file c e.client call is here h at_file plan.got io queue
          (usable.long ∙ ap (λ (n : RawMap). n.comps) holding.same.agrees.map)
          (facts.small call.op (at_begun.about call is)) first first_layout facts.checked first_run first_code holding
          (λ j gathering. elim plan.source [
            | inl none ↦ λ col n. absurd (subst (In col) none n)
            | inr b ↦
                subst (λ (z : State). AllShown z j plan.got) (sym b.same)
                (b.shown j (ap (λ (z : State). z.call c) (sym b.same) ∙ gathering.at_))
          ])
          (λ idle. elim plan.source [
            | inl none ↦ none
            | inr b ↦ absurd (b.busy (ap (λ (z : State). z.call c) (sym b.same) ∙ idle.at_))
          ]) e.commands plan.scattered cf
          (begun_rise file m c first d
          (λ z held. subst (HeldIs file m first c d.client (kept_for slot d.client.outstanding)) held known.there.held)
          known.rise call is here (ap is_scatter phase)) starts

      -- by the phase that the call comes to
      by_phase : (p : Phase) → call.phase ≡ p → IsWorking p → MaySendThese first file c e.client (map to_drive e.commands)
      by_phase (Reads io) q z =
          let f : IsFit h call.op (Reads io) = subst (IsFit h call.op) q fit in
          reads_may file c e.client call is here h at_file m facts.tag facts.checked first holding first_layout f.covers f.is
          e.commands (subst (λ (p : Phase). CommandsFit e.client h (is_scatter p) e.commands) q commands_fit)
          (subst (PhasePends m first c call.op (kept_for slot e.client.outstanding) e.commands) q pends)
      by_phase (Probes io) q z =
          let f : IsFit h call.op (Probes io) = subst (IsFit h call.op) q fit in
          reads_may file c e.client call is here h at_file m facts.tag facts.checked first holding first_layout f.covers f.is
          e.commands (subst (λ (p : Phase). CommandsFit e.client h (is_scatter p) e.commands) q commands_fit)
          (subst (PhasePends m first c call.op (kept_for slot e.client.outstanding) e.commands) q pends)
      by_phase (Gathers io) q z =
          let f : IsFit h call.op (Gathers io) = subst (IsFit h call.op) q fit in
          gathers_may file c e.client call is here h at_file m facts.tag facts.checked first holding first_layout f.covers f.is
          e.commands (subst (λ (p : Phase). CommandsFit e.client h (is_scatter p) e.commands) q commands_fit)
          (subst (PhasePends m first c call.op (kept_for slot e.client.outstanding) e.commands) q pends)
      by_phase (Scatters io queue) q z =
          scatters io queue q (subst (PhasePends m first c call.op (kept_for slot e.client.outstanding) e.commands) q pends)
          (subst (λ (p : Phase). CommandsFit e.client h (is_scatter p) e.commands) q commands_fit)
      by_phase p q z = absurd z

      works_there : (u : Option Outcome) → e.outcome ≡ u → MaySendThese (told u) file c e.client (map to_drive e.commands)
      works_there None out = by_phase call.phase refl working
      works_there (Some v) out = absurd (cc (sym (at_begun.ended v out) ∙ is))

    end_may : (u : Option Outcome) → (is : e.outcome ≡ u) →
        EndMay file m c (told u) (op_in x i) slot (with_outcome e None)
        (mid_by file m c slot first (op_in x i) d known.there begin u is first_safe.formed) refl
    end_may u is = record {
      rests = rests_there u;
      gets = begun_gets d known.gets;
      works = λ call at here working. works_there call at here working u is;
    }

    messages : (u : Option Outcome) → e.outcome ≡ u →
        MaySendThese (told u) file c (progressed e).client (sends_of (progressed e))
    messages u is =
        let z =
        turn_may file m c (told u) (op_in x i) slot (with_outcome e None)
        (mid_by file m c slot first (op_in x i) d known.there begin u is first_safe.formed) refl (end_may u is) in
        subst (λ (y : Done). MaySendThese (told u) file c y.client (sends_of y)) (outcome_apart e None) z

    -- all lines behind the first
    pub end_lawful : Lawful first (joined (table.at_end first file c (op_in x i) (finished d)))
    unfolding finished
    end_lawful = by_outcome (begun d).outcome refl
      where
        by_outcome : (u : Option Outcome) → (begun d).outcome ≡ u →
            Lawful first (joined (table.at_end first file c (op_in x i) (finished d)))
        by_outcome None is =
            rw (outcome_stays e ∙ is)
            (messages_lawful first file c (progressed e).client (sends_of (progressed e)) (messages None is))
        by_outcome (Some v) is =
            rw (outcome_stays e ∙ is)
            (lawful_more first (table.ended first file c (op_in x i) (Some v))
            (joined (table.sends_all (told (Some v)) file c (progressed e).client (sends_of (progressed e)))) (ended_may v is)
            (messages_lawful (told (Some v)) file c (progressed e).client (sends_of (progressed e)) (messages (Some v) is)))
