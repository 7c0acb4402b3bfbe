-- What is known of a ready call that works on drives: its grant, its client's next request, and how much it sent.
use Rattle.std.proofs.Common.{◌≡◌, ◌≤◌, ◌*◌, ℕ, Bool, true, max, List, length, Option, Some, if◌then◌else◌, true≢false, refl, sym, ap, subst, ◌∙◌, inl, inr, arith, ◌≢◌}
use Rattle.std.proofs.lemmas.Bool.{cases_Bool}
use Rattle.data_map.specs.declared.check.RawMap.{RawMap}
use Rattle.data_map.specs.Check.{IsChecked}
use Rattle.server_rules.specs.Grants.{grant_of}
use Rattle.server_rules.specs.Slots.{New, admit, slot_of}
use Rattle.stripe_plan.specs.Touched.{stripes}
use Rattle.client_rules.specs.Calls.{span_of, is_write}
use Rattle.client_rules.specs.Grants.{clipped, held_of, covers_write, covers_read, is_for}
use Rattle.scenario_text.specs.declared.line.Line.{Line}
use Rattle.world_history.specs.ClientNames.{Client, Call, CallOp, Held, Awaited, Phase, Starts, Needs, Waits, Reads, Probes, Gathers, Scatters, Request}
use Rattle.world_history.specs.ServerNames.{Grant, Kept, Server}
use Rattle.world_history.specs.State.{World, ClientAt, at_number}
use Rattle.exchange_law.specs.Calls.{Knows, PhaseFine, CallFine, Writes}
use Rattle.exchange_law.specs.Held.{Agrees}
use Rattle.exchange_law.specs.InStep.{state_of}
use Rattle.exchange_law.specs.Meeting.{KeptGood, IsMet}
use Rattle.component_law.specs.Listed.{ListsComponents}
use Rattle.load_law.specs.Load.{stripes_reached, EachCallSendsFew}
use Rattle.ready_law.specs.Answered.{stripes_touched}
use Rattle.ready_law.specs.Load.{Runs}
use Rattle.ready_law.specs.Reacting.{IsGood, IsPhaseOf}
use Rattle.ready_law.specs.Stepping.{IsWorkingAt}
use Rattle.ready_law.proofs.AskingForms.{AskingLaws}
use Rattle.ready_law.proofs.AskingFrames.{serves_stays, aside_still}
use Rattle.ready_law.proofs.AskingAsks.{in_step_there, new_idle}
use Rattle.ready_law.proofs.Calls.{ReadyCall, op_at, file_at_call, kept_at, lost_at, IsIn}
use Rattle.ready_law.proofs.Stages.{Serves, Working, work_at}
use Rattle.ready_law.proofs.WorkingForms.{WorkingLaws, UnderGrant}

-- ---- a grant that is held, and that the server has

module _ (laws : AskingLaws) (s : ReadyCall) (w : World) (h : List Line) (i : IsIn s w h) (at : ClientAt)
    (there : at_number w.clients s.client ≡ Some at) (held : Held)
    (holds : held_of at.state.held (file_at_call s) ≡ Some held) (grants : List Grant) (size : ℕ)
    (x : Serves s w grants size) (grant : Grant) (granted : grant_of grants s.client ≡ Some grant) where
  held_there : held_of (state_of s.client (at_number w.clients s.client)).held (file_at_call s) ≡ Some held
  held_there = ap (λ (o : Option ClientAt). held_of (state_of s.client o).held (file_at_call s)) there ∙ holds

  -- they are the same
  pub grant_agrees : Agrees (kept_at s).map grant held
  grant_agrees =
      (laws.agree w h i.fair.moment i.fair.readable s.client).helds (file_at_call s) held held_there _ grant x.found granted

  -- and its components are those of the file
  pub grant_lists : ListsComponents w.server.drives
      (record (kept_at s) { grants = grants; size = size; high = x.high }) grant held.components
  grant_lists =
      laws.listed w h i.fair.moment i.fair.readable s.client (file_at_call s) held _ grant held_there x.found granted

-- ---- grants for writing

pub for_writing : (h : Held) (op : CallOp) → is_write op ≡ true → is_for h.reach h.size op ≡ true → h.reach.rw ≡ true
unfolding is_for covers_write
for_writing h op writes e =
    let it : covers_write h.reach h.size (span_of op) ≡ true =
    sym (ap (λ (b : Bool). if b then covers_write h.reach h.size (span_of op)
    else covers_read h.reach h.size (span_of op)) writes) ∙ e in
    elim (cases_Bool h.reach.rw) [
      | inl t ↦ t
      | inr f ↦ absurd (cc (rw f at it))
    ]

phase_writes : (K : Knows) (h : Held) (o : Option Held) (out : Option Request) (op : CallOp) (p : Phase) → IsPhaseOf h op p
    → PhaseFine K o out op p → is_write op ≡ true → Writes o op
phase_writes K h o out op (Reads io) is fine writes = absurd (true≢false (sym writes ∙ is.0))
phase_writes K h o out op (Probes io) is fine writes = absurd (true≢false (sym writes ∙ is.0))
phase_writes K h o out op (Gathers io) is fine writes = fine.0
phase_writes K h o out op (Scatters io queue) is fine writes = fine.0
phase_writes K h o out op Starts is fine writes = absurd is
phase_writes K h o out op (Needs n) is fine writes = absurd is
phase_writes K h o out op (Waits n) is fine writes = absurd is

-- ---- how much is sent

-- under a grant with the file's map and size a call reaches what it touches
reached_is : (s : ReadyCall) (b : Held) → b.map ≡ (kept_at s).map → b.size ≡ (kept_at s).size
    → stripes_reached b (op_at s) ≡ stripes_touched (kept_at s) (op_at s)
reached_is s b map_is size_is =
    ap (λ (m : RawMap). max 1 (length (stripes m (if is_write (op_at s) then span_of (op_at s)
    else clipped b.size (span_of (op_at s)))))) map_is
    ∙ ap (λ (n : ℕ). max 1 (length (stripes (kept_at s).map (if is_write (op_at s) then span_of (op_at s)
    else clipped n (span_of (op_at s)))))) size_is

within : (l c n : ℕ) → l ≤ 6 * c * n → 2 * l ≤ 12 * c * n
within l c n e = omega (arith, e)

pub sends_few : EachCallSendsFew → (s : ReadyCall) (b g : Held) (p : Phase) (sent : List Awaited)
    → Runs b (op_at s) g p sent → IsGood g (op_at s) (lost_at s) → g.map ≡ (kept_at s).map → g.size ≡ (kept_at s).size
    → 2 * length sent ≤ work_at s
sends_few few s b g p sent r good map_is size_is =
    let same_map : g.map ≡ b.map = ap (λ (x : Held). x.map) r.same in
    let same_size : g.size ≡ b.size = ap (λ (x : Held). x.size) r.same in
    let complete : length b.components ≡ b.map.comps =
    ap (λ (x : Held). length x.components) (sym r.same) ∙ good.complete ∙ ap (λ (m : RawMap). m.comps) same_map in
    let all = few b (op_at s) (subst IsChecked same_map good.checked) complete r.moved sent r.deals in
    let comps : b.map.comps ≡ (kept_at s).map.comps = ap (λ (m : RawMap). m.comps) (sym same_map ∙ map_is) in
    let st : stripes_reached b (op_at s) ≡ stripes_touched (kept_at s) (op_at s) =
    reached_is s b (sym same_map ∙ map_is) (sym same_size ∙ size_is) in
    within (length sent) (kept_at s).map.comps (stripes_touched (kept_at s) (op_at s))
    (subst (λ (n : ℕ). length sent ≤ 6 * (kept_at s).map.comps * n) st
    (subst (λ (n : ℕ). length sent ≤ 6 * n * stripes_reached b (op_at s)) comps all))

-- ---- the stage

module _ (laws : WorkingLaws) (s : ReadyCall) (w : World) (h : List Line) (i : IsIn s w h) (a : Working s w) where
  abbrev pub its : ClientAt
  its = a.has.caller.at

  abbrev pub held : Held
  held = a.has.held

  abbrev pub seen : Client
  seen = state_of s.client (at_number w.clients s.client)

  pub seen_is : seen ≡ its.state
  seen_is = ap (state_of s.client) a.has.caller.there

  pub met : IsMet w.server s.client seen
  met = laws.asking.agree w h i.fair.moment i.fair.readable s.client

  pub writes_under : is_write (op_at s) ≡ true → held.reach.rw ≡ true
  writes_under writes =
      let K : Knows = KeptGood w.server s.client in
      let pending : seen.call ≡ Some (record { op = op_at s; phase = a.phase }) =
      ap (λ (x : Client). x.call) seen_is ∙ a.has.caller.call in
      let fine = subst (λ (o : Option Call). CallFine K seen.held seen.outstanding o) pending met.call in
      let it : Writes (Some held) (op_at s) =
      subst (λ (o : Option Held). Writes o (op_at s))
      (ap (λ (x : Client). held_of x.held (file_at_call s)) seen_is ∙ a.has.holds)
      (phase_writes K held _ _ (op_at s) a.phase a.well.kind fine.1 writes) in
      for_writing held (op_at s) writes it.1

  abbrev pub kept_now : Kept
  kept_now = record (kept_at s) { grants = a.has.grants; size = (kept_at s).size; high = a.has.server.high }

  -- behind a move that leaves the server as it is
  abbrev pub under_at : (v : World) → v.server ≡ w.server → v.clock ≡ w.clock → v.down ≡ w.down
      → ((c : ℕ) → c ≢ s.client → at_number v.clients c ≡ at_number w.clients c) → UnderGrant s v held (kept_at s).size
  under_at v server clock down beside = record {
    grants = a.has.grants;
    grant = a.has.grant;
    granted = a.has.granted;
    others = a.has.others;
    aside = aside_still s w v a.has.grants beside a.has.aside;
    server = serves_stays s w v a.has.grants (kept_at s).size server clock down a.has.server;
    good = a.has.good;
    listed = a.has.listed;
    agrees =
        grant_agrees laws.asking s w h i its a.has.caller.there held a.has.holds a.has.grants (kept_at s).size a.has.server
        a.has.grant a.has.granted;
    lists =
        subst (λ (x : Server). ListsComponents x.drives kept_now a.has.grant held.components) (sym server)
        (grant_lists laws.asking s w h i its a.has.caller.there held a.has.holds a.has.grants (kept_at s).size a.has.server
        a.has.grant a.has.granted);
    for_writing = writes_under;
  }

  pub number_is : its.state.number ≡ s.client
  number_is = (in_step_there laws.asking w h i.fair s.client its a.has.caller.there).number

  -- its next request is new to the server
  pub next_is_new : (v : World) → v.server ≡ w.server → admit (slot_of v.server.slots s.client) its.state.next ≡ New
  next_is_new v server =
      ap (λ (x : Server). admit (slot_of x.slots s.client) its.state.next) server
      ∙ new_idle laws.asking w h i.fair s.client its a.has.caller.there a.has.caller.outstanding

  pub working_at : IsWorkingAt its.state held (op_at s) a.phase
  working_at = record {
    pending = a.has.caller.call;
    holds = a.has.holds;
    free = a.has.caller.outstanding;
    none_due = a.has.caller.due;
  }

  pub few_so_far : 2 * length a.commands ≤ work_at s
  few_so_far =
      sends_few laws.few s a.begun held a.phase a.commands a.run a.has.good
      (under_at w refl refl refl (λ c other. refl)).agrees.map a.size
