-- Each WRITE that a client sends in its turn is awaited behind it, and is sent in the machine of the call's file.
-- Towards `SentGoesOn` (`relation_law/specs/Steps.antt`).
use Rattle.std.proofs.Common.{◌≡◌, ◌==◌, ℕ, Bool, true, false, List, ◌++◌, map, Option, Some, None, refl, sym, ap, subst, ◌∙◌}
use Rattle.std.proofs.lemmas.Bool.{true≢false}
use Rattle.data_map.specs.declared.check.RawMap.{RawMap}
use Rattle.osd_drive.specs.Table.{is_write as is_write_action}
use Rattle.osd_commands.specs.declared.commands.Command.{Command}
use Rattle.server_rules.specs.Laws.{In}
use Rattle.client_rules.specs.Calls.{file_of}
use Rattle.client_rules.specs.Going.{begun, progressed, asks_under, returns, requests}
use Rattle.client_rules.specs.Grants.{held_of}
use Rattle.client_rules.specs.History.{Input, Resends, step}
use Rattle.client_rules.specs.Io.{awaited_in}
use Rattle.client_rules.specs.Messages.{Step, finished, sends_of, to_drive}
use Rattle.history_law.proofs.Turns.{each_finish, each_progress}
use Rattle.world_history.specs.ServerNames.{Slot}
use Rattle.world_history.specs.ClientNames.{Client, Call, CallOp, Held, Due, Awaited, Need, Phase, Starts, Needs, Waits, Reads, Probes, Gathers, Scatters, Outcome, ToDrive, Done, Request, AnswersRecall, Asks}
use Rattle.world_history.specs.Handed.{op_in}
use Rattle.fence_law.specs.State.{State, Event, Grant}
use Rattle.fence_law.specs.Machine.{after_all}
use Rattle.file_simulation.specs.Calls.{IsClient, IsHolding, HeldIs}
use Rattle.file_simulation.specs.ClientEvents as table
use Rattle.file_simulation.specs.Events.{joined}
use Rattle.file_simulation.specs.Grants.{LayoutIs}
use Rattle.file_simulation.specs.Messages.{WasSent}
use Rattle.file_simulation.specs.Requests.{kept_for}
use Rattle.relation_law.specs.CallsCases.{IsTurn}
use Rattle.relation_law.specs.CallsTurns.{IsMid, IsWorking, PhasePends, PhaseOn, PendsAt}
use Rattle.relation_law.specs.Working.{SentIn, DoneWorks}
use Rattle.relation_law.proofs.CallsMid.{begun_mid}
use Rattle.relation_law.proofs.CallsOwn.{OwnFits, EndsWell}
use Rattle.relation_law.proofs.CallsSettled.{WorkFits}
use Rattle.relation_law.proofs.CallsTells.{told, told_more, recalls_told, CommandsFit}
use Rattle.relation_law.proofs.CallsWhole.{told_end, with_outcome, mid_by, lines_by}
use Rattle.relation_law.proofs.ComponentsTurns.{in_sends}
use Rattle.relation_law.proofs.TurnEnds.{TurnFacts, works_done}
use Rattle.relation_law.proofs.WorksRun.{finishes}
use Rattle.headline_law.proofs.SentMids.{MidCases, each_mid}
use Rattle.headline_law.proofs.SentSince.{DoneSince, finished_since}
use Rattle.headline_law.proofs.SentSilent.{turn_since}
use Rattle.headline_law.proofs.SentWrites.{NamesGrant, fit_of, writes_sent}

-- ---- a call that works asks nothing

waits_none : (op : CallOp) (n : Need) (call : Call) → Some (record { op = op; phase = Waits n }) ≡ Some call →
    IsWorking call.phase → ⊥
waits_none op n call e w =
    let same : record { op = op; phase = Waits n } ≡ call = cc e in
    subst (λ (y : Call). IsWorking y.phase) (sym same) w

-- so behind the end of a turn in which a call works all is as it was
pub working_same : (e : Done) (call : Call) → IsWorking call.phase → (progressed e).client.call ≡ Some call → progressed e ≡ e
unfolding requests
working_same e call work =
    each_progress e (λ (z : Done). z.client.call ≡ Some call → z ≡ e) (record {
      waits = λ r out is. refl;
      works = λ y at out is. refl;
      spent = λ none out zero is. refl;
      asks = λ op n h is out held at. absurd (asked e op n h at);
      gives_back = λ u none out left found at. absurd (given e u none at);
    })
  where
    asked : (e : Done) (op : CallOp) (n : Need) (h : Option Held) → (asks_under e op n h).client.call ≡ Some call → ⊥
    asked e op n None at = waits_none op n call at work
    asked e op n (Some h) at = waits_none op n call at work

    given : (e : Done) (u : Option Due) → e.client.call ≡ None → (returns e u).client.call ≡ Some call → ⊥
    given e None none at = cc (sym none ∙ at)
    given e (Some u) none at = cc (sym none ∙ at)

-- what is awaited is of a phase that works
pub awaited_works : (p : Phase) (a : Awaited) → In a (awaited_in p) → IsWorking p
awaited_works (Reads io) a i = tt
awaited_works (Probes io) a i = tt
awaited_works (Gathers io) a i = tt
awaited_works (Scatters io queue) a i = tt
awaited_works Starts a i = absurd i
awaited_works (Needs n) a i = absurd i
awaited_works (Waits n) a i = absurd i

module _ (file : ℕ) (m : RawMap) (c : ℕ) (s : State) (x : Client) (slot : Option Slot)
    (k : IsClient file m s c x (kept_for slot x.outstanding)) (i : Input) where
  -- the machine behind the turn
  abbrev pub turn_behind : List Event → Step → State
  turn_behind es t = after_all (after_all s es) (joined (table.at_end (after_all s es) file c (op_in x i) t))

  -- a WRITE of the turn is awaited behind it, by the client's call; where that is on the file, the machine has sent it
  pub record IsSentIn (es : List Event) (t : Step) (y : Command) : Type 0 where
    pub call : Call
    pub is : t.client.call ≡ Some call
    pub awaited : Awaited
    pub awaits : In awaited (awaited_in call.phase)
    pub command : awaited.command ≡ y
    pub sent : (file_of call.op == file) ≡ true →
        ((h : Held) (g : Grant) → held_of t.client.held file ≡ Some h → LayoutIs m g h → NamesGrant awaited.command g) →
        WasSent (turn_behind es t) c awaited.ask.component awaited.command

  abbrev pub SendsWrites : List Event → Step → Type 0
  SendsWrites es t =
      (d : ℕ) (y : Command) → In (ToDrive d y) t.sends → is_write_action y.action ≡ true → IsSentIn es t y

  module _ (facts : TurnFacts file m c s x slot k i) (fits : OwnFits file m c s x slot k i) (es : List Event) (d : Done)
      (first : table.at_first s file c x i ≡ es) (is : step x i ≡ finished d) (turn : IsTurn file s c x i es d)
      (w : IsMid file m (after_all s es) c (kept_for slot d.client.outstanding) (op_in x i) d)
      (since : DoneSince x i (λ call. Unit {0}) d) where
    abbrev e : Done
    e = begun d

    abbrev s1 : State
    s1 = after_all s es

    well : EndsWell file m c s x slot k i es d w
    well = fits.ends es first d is turn w

    works : DoneWorks (progressed (begun d))
    works = each_finish DoneWorks finishes d (works_done file m c s x slot k i facts es first d is turn w)

    ended : DoneSince x i (λ call. Unit {0}) (progressed (begun d))
    ended = finished_since x i (λ call. Unit {0}) d since

    -- the call that awaits what is sent
    sent_by : (q : Option Call) → (progressed e).client.call ≡ q → (a : Awaited) → In a (progressed e).commands →
        (call : Call) × ((progressed e).client.call ≡ Some call) × In a (awaited_in call.phase)
    sent_by None none a there = absurd (subst (In a) (ended.ended none) there)
    sent_by (Some call) at a there = (call, at, subst (SentIn (progressed e).commands) at works.sent a there)

    -- the call that works behind the turn
    module _ (call : Call) (at : (progressed (begun d)).client.call ≡ Some call) (work : IsWorking call.phase)
        (here : (file_of call.op == file) ≡ true) where
      pub same : progressed (begun d) ≡ begun d
      same = working_same e call work at

      pub call_is : (begun d).client.call ≡ Some call
      call_is = ap (λ (z : Done). z.client.call) (sym same) ∙ at

      begun_is : IsMid file m s1 c (kept_for slot d.client.outstanding) (op_in x i) e
      begun_is = begun_mid file m c (kept_for slot d.client.outstanding) s1 (op_in x i) d w well.begin

      -- no call ended
      no_outcome : e.outcome ≡ None
      no_outcome = by e.outcome refl
        where
          by : (u : Option Outcome) → e.outcome ≡ u → e.outcome ≡ None
          by None is = is
          by (Some u) is = absurd (cc (sym (begun_is.ended u is) ∙ call_is))

      mid : IsMid file m s1 c (kept_for slot e.client.outstanding) (op_in x i) (with_outcome e None)
      mid = mid_by file m c slot s1 (op_in x i) d w well.begin None no_outcome well.formed

      abbrev end_at : Option Outcome → State
      end_at u = told_end file m c slot s1 (op_in x i) d w well.begin u

      pub work_fits : WorkFits file m (after_all s es) c (begun d).client call.op (begun d).commands call.phase
      work_fits =
          let there_ : IsMid file m (end_at e.outcome) c (kept_for slot e.client.outstanding) (op_in x i) (with_outcome e None) =
          mid_by file m c slot s1 (op_in x i) d w well.begin e.outcome refl well.formed in
          let f = well.end well.holding well.slots there_ in
          subst (λ (u : Option Outcome). WorkFits file m (end_at u) c e.client call.op e.commands call.phase) no_outcome
          (f.sends call call_is here)

      pends : PhasePends m s1 c call.op (kept_for slot e.client.outstanding) e.commands call.phase
      pends =
          let at_call : PhaseOn (file_of call.op == file) m s1 c call (kept_for slot e.client.outstanding) e.commands =
          subst (PendsAt file m s1 c (kept_for slot e.client.outstanding) (op_in x i) None e.commands) call_is mid.call in
          subst (λ (b : Bool). PhaseOn b m s1 c call (kept_for slot e.client.outstanding) e.commands) here at_call

      -- the machine behind the turn is that behind the commands
      pub behind_is : turn_behind es (finished d)
          ≡ told (after_all s es) file c (begun d).client (map to_drive (begun d).commands)
      behind_is =
          lines_by file m c slot s1 (op_in x i) d w well.begin None no_outcome
          ∙ ap (λ (z : Done). told s1 file c z.client (sends_of z)) same
          ∙ told_more s1 file c e.client (map AnswersRecall e.recalls) (map Asks e.requests ++ map to_drive e.commands)
          ∙ ap (λ (t : State). told t file c e.client (map Asks e.requests ++ map to_drive e.commands))
          (recalls_told s1 file c e.client e.recalls)
          ∙ ap (λ (rs : List Request). told s1 file c e.client (map Asks rs ++ map to_drive e.commands)) mid.unasked

      pub holding : (h : Held) → held_of (begun d).client.held file ≡ Some h → IsHolding m (after_all s es) c h
      holding h held = subst (HeldIs file m s1 c e.client (kept_for slot e.client.outstanding)) held mid.held

      module _ (a : Awaited) (there : In a (progressed (begun d)).commands) (write : is_write_action a.command.action ≡ true)
        where
          in_commands : In a e.commands
          in_commands = subst (λ (z : Done). In a z.commands) same there

          read_none : (h : Held) → CommandsFit e.client h false e.commands →
              WasSent (told s1 file c e.client (map to_drive e.commands)) c a.ask.component a.command
          read_none h f = absurd (true≢false (sym write ∙ (fit_of e.client h false e.commands f a in_commands).action))

          by_phase : (p : Phase) → IsWorking p → ((h : Held) (g : Grant) → held_of e.client.held file ≡ Some h →
              LayoutIs m g h → NamesGrant a.command g) → WorkFits file m s1 c e.client call.op e.commands p →
              PhasePends m s1 c call.op (kept_for slot e.client.outstanding) e.commands p →
              WasSent (told s1 file c e.client (map to_drive e.commands)) c a.ask.component a.command
          by_phase (Scatters io queue) j names f p =
              let z = holding f.0 f.1 in
              writes_sent file c e.client call call_is here f.0 f.1 m s1 z.grant io queue e.commands z.held z.nonce f.3
              (f.4 z.grant call call_is here f.1 refl z.held) p a in_commands (names f.0 z.grant f.1 z.same)
          by_phase (Reads io) j names f p = read_none f.0 f.3
          by_phase (Probes io) j names f p = read_none f.0 f.3
          by_phase (Gathers io) j names f p = read_none f.0 f.3
          by_phase Starts j names f p = absurd j
          by_phase (Needs n) j names f p = absurd j
          by_phase (Waits n) j names f p = absurd j

          was_sent : ((h : Held) (g : Grant) → held_of (finished d).client.held file ≡ Some h → LayoutIs m g h →
              NamesGrant a.command g) → WasSent (turn_behind es (finished d)) c a.ask.component a.command
          unfolding finished
          was_sent names =
              subst (λ (t : State). WasSent t c a.ask.component a.command) (sym behind_is)
              (by_phase call.phase work
              (λ h g held. names h g (ap (λ (z : Done). held_of z.client.held file) same ∙ held)) work_fits pends)

    pub done_sends : SendsWrites es (finished d)
    unfolding finished
    done_sends n y there write =
        let r = in_sends 0 0 (λ (o : ℕ). o) (progressed e) n y there in
        let z = sent_by (progressed e).client.call refl r.0 r.1 in
        record {
          call = z.0;
          is = z.1;
          awaited = r.0;
          awaits = z.2;
          command = r.2;
          sent = λ here names. was_sent z.0 z.1 (awaited_works z.0.phase r.0 z.2) here r.0 r.1
              (ap (λ (q : Command). is_write_action q.action) r.2 ∙ write) names;
        }

  -- ---- each turn

  module _ (facts : TurnFacts file m c s x slot k i) (fits : OwnFits file m c s x slot k i) where
    cases : MidCases file m c s x slot k i fits SendsWrites
    cases = record {
      rests = λ d y j. absurd j;
      nothing = λ d y j. absurd j;
      done = λ es d first is turn w. done_sends facts fits es d first is turn w
          (turn_since file s c x i es d (λ call. Unit {0}) (record {
            answered = λ a e n call is now. tt;
            replied = λ q call a e done now. tt;
            timed = λ call t z e at now. tt;
            stays = λ e call. tt;
          }) turn);
    }

    pub turn_writes : (i ≡ Resends → ⊥) → SendsWrites (table.at_first s file c x i) (step x i)
    turn_writes none = each_mid file m c s x slot k i fits SendsWrites cases none
