-- The commands of a turn go out under the grant that the machine's client holds, and are read as they are.
-- Towards `CutsShowEntries` (`specs/Parts.antt`).
use Rattle.std.proofs.Common.{◌≡◌, ◌⊎◌, ◌==◌, ◌<◌, ◌≤◌, ◌^◌, ◌++◌, ◌+◌, ◌*◌, ℕ, Bool, true, false, List, map, take, Option, Some, None, Ok, refl, sym, ap, subst, ◌∙◌, arith, inl, inr}
use Rattle.std.proofs.lemmas.Bool.{eqb-true, ltb-false}
use Rattle.osd_lists.proofs.Tests.{first_false}
use Rattle.osd_commands.specs.declared.actions.Action.TheVariants as action
use Rattle.osd_commands.specs.declared.commands.Command.{Command}
use Rattle.osd_commands.specs.Commands.{spelling, reading}
use Rattle.osd_drive.specs.Table.{is_write as is_write_action}
use Rattle.osd_capability.specs.declared.layout.Capability.{Capability}
use Rattle.scenario_text.specs.declared.line.Line.{Line}
use Rattle.layout_ops.specs.declared.messages.Answer.{Answer}
use Rattle.server_rules.specs.Laws.{In}
use Rattle.server_rules.specs.Slots.{slot_of}
use Rattle.server_rules.proofs.Members.{in_behind, in_map, one_in}
use Rattle.client_rules.specs.declared.limits.TheConstants.{MAX_CALL, NONCES}
use Rattle.client_rules.specs.Calls.{file_of, is_write, span_of}
use Rattle.client_rules.specs.Commands.{command, credential_of, no_capability, sealed}
use Rattle.client_rules.specs.Going.{quiet}
use Rattle.client_rules.specs.Grants.{held_of}
use Rattle.client_rules.specs.History.{Input, Calls, Hears, TimesOut, Leaves, Resends, step}
use Rattle.client_rules.specs.Io.{awaited_in}
use Rattle.client_rules.specs.Messages.{awaited_of, on_call, to_drive}
use Rattle.world_history.specs.Calm.{moment_of}
use Rattle.world_history.specs.ClientNames.{AnswersRecall, Asks, Awaited, Call, Client, Held, RecallAnswer, Request, Store, ToDrive}
use Rattle.world_history.specs.Handed.{op_in}
use Rattle.world_history.specs.Moves.{acts}
use Rattle.world_history.specs.ReadLog.{entry_in}
use Rattle.world_history.specs.Reading.{sent_in}
use Rattle.world_history.specs.Sending.{Move}
use Rattle.world_history.specs.ServerNames.{File, Slot}
use Rattle.world_history.specs.State.{World, at_number}
use Rattle.history_law.specs.Moments.{IsMoment, lines_in}
use Rattle.history_law.specs.Moves.{IsForClient}
use Rattle.history_law.specs.Said.{IsHeardByClient}
use Rattle.history_law.specs.Turns.{AnswerComes}
use Rattle.history_law.proofs.DriveLines.{sent_read}
use Rattle.exchange_law.specs.Calls.{CallFine, ClientFine}
use Rattle.exchange_law.specs.InStep.{client_of}
use Rattle.exchange_law.specs.PlaceAnswers.{AnswersFit}
use Rattle.exchange_law.specs.Text.{AreFew}
use Rattle.exchange_law.proofs.ClientMoves.{clients_always}
use Rattle.exchange_law.proofs.Commands.{MaySend}
use Rattle.exchange_law.proofs.CountGrowing.{fewer}
use Rattle.exchange_law.proofs.CountMoments.{at_moment, reached}
use Rattle.exchange_law.proofs.HeldHearing.{AnyKnown}
use Rattle.exchange_law.proofs.Knowing.{lawful_at}
use Rattle.exchange_law.proofs.Parts.{each_in}
use Rattle.exchange_law.proofs.PlaceGoing.{CallFits, ClientFits}
use Rattle.exchange_law.proofs.PlaceLines.{IsPlacedWorld, all_placed}
use Rattle.exchange_law.proofs.PlaceMoves.{acts_fit}
use Rattle.exchange_law.proofs.PlaceSending.{AwaitedPlaced}
use Rattle.exchange_law.proofs.PlaceWorlds.{ActFits}
use Rattle.cause_law.specs.Readable.{AnswersAreFit}
use Rattle.cause_law.proofs.MadeCommands.{IsMade}
use Rattle.cause_law.proofs.MadeSteps.{CallMade, ClientMade, UnderMade, all_made, step_made}
use Rattle.cause_law.proofs.MadeRead.{made_read, nonce_of}
use Rattle.fence_law.specs.Machine.{after_all}
use Rattle.fence_law.specs.State.{State}
use Rattle.file_simulation.specs.Calls.{HeldIs, IsClient}
use Rattle.file_simulation.specs.ClientEvents as table
use Rattle.file_simulation.specs.ClientEvents.{Going, going_in}
use Rattle.file_simulation.specs.Requests.{RequestIs, IsOutstanding, kept_for}
use Rattle.file_simulation.specs.Showing.{Pairs}
use Rattle.file_simulation.specs.Tied.{AreTied}
use Rattle.relation_law.specs.CallsTurns.{IsWorking}
use Rattle.relation_law.specs.Frames.{ByClient}
use Rattle.relation_law.specs.Working.{CallWorks, ClientWorks}
use Rattle.relation_law.proofs.CallsReceived.{answered_mid}
use Rattle.relation_law.proofs.OwnFacts.{works_kept}
use Rattle.headline_law.specs.Parts.{CutShown}
use Rattle.headline_law.proofs.ClientAwaits.{scatter_writes}
use Rattle.headline_law.proofs.EntriesClient.{head_log}
use Rattle.headline_law.proofs.EntriesDone.{HoldsFor}
use Rattle.headline_law.proofs.EntriesFacts.{CommandsAreHeld, FactLaws, TurnLaws, its, text, through, is_client, agree, safe, unheld_, kept_it, answered_, never}
use Rattle.headline_law.proofs.EntriesHeld.{HeldFacts, HoldsNumber, turn_holds}
use Rattle.headline_law.proofs.EntriesSends.{CommandIs}
use Rattle.headline_law.proofs.SentAwaited.{sends_awaited}
use Rattle.headline_law.proofs.SentNames.{AllName, NamesIt, capabilities_name_grants, step_names}

-- what is known of commands
pub record CommandLaws : Type 0 where
  pub turns : TurnLaws
  pub answers : AnswersAreFit

made_capability : (h : Held) (write : Bool) (x : Store) (nonce : ℕ) →
    (command h write x nonce).capability ≡ (credential_of h x.ask.component).capability
unfolding command sealed
made_capability h write x nonce = refl

module _ (laws : CommandLaws) (w : World) (h : List Line) (m : Move) (count : ℕ) (f g : File) (s : State) (pairs : Pairs)
    (k : CutShown w h m count f g s pairs) (tied : AreTied w h s f.kept.number pairs) (j : Going)
    (goes : going_in w m.action ≡ Some j) where
  abbrev file : ℕ
  file = f.kept.number

  abbrev c : ℕ
  c = j.client

  abbrev x : Client
  x = j.state

  abbrev slot : Option Slot
  slot = slot_of w.server.slots c

  abbrev next : Client
  next = (step j.state j.input).client

  moment : IsMoment w h
  moment = k.shown.follows.moment

  mine : ByClient w m.action j (acts w m.chosen m.action)
  mine = its laws.turns w h m count f g s pairs k tied j goes

  -- ---- the grant that is held

  answered_holds : (a : Answer) → AnswerComes x j.input a → (y : Held) →
      held_of (on_call (quiet (record x { outstanding = None })) x.call a).client.held file ≡ Some y →
      HoldsNumber (after_all s (table.answered s file c x a x.outstanding)) c y.number
  answered_holds a n y has =
      let r : Request = n.request in
      let kept = kept_it laws.turns w h m count f g s pairs k tied j goes n.from n.message a n.is n.takes_it r n.outstanding in
      let client : IsClient file f.kept.map s c x (Some a) =
      subst (λ (o : Option Answer). IsClient file f.kept.map s c x o) (ap (kept_for slot) n.outstanding ∙ kept)
      (is_client laws.turns w h m count f g s pairs k tied j goes) in
      let agreed = agree laws.turns w h m count f g s pairs k tied j goes in
      let asked : IsOutstanding file f.kept.map s slot c x r =
      subst (λ (o : Option Request). RequestIs file f.kept.map s slot c x o) n.outstanding agreed.request in
      let safe_ = safe laws.turns w h m count f g s pairs k tied j goes in
      let mid =
      answered_mid file f.kept.map c s safe_.slots safe_.holds safe_.calls x slot a r kept client asked agreed.slot
      (answered_ laws.turns w h m count f g s pairs k tied j goes a r n n.outstanding) in
      let t : State = after_all s (table.answered s file c x a (Some r)) in
      let held =
      subst (HeldIs file f.kept.map t c (on_call (quiet (record x { outstanding = None })) x.call a).client None) has
      mid.held in
      subst (λ (o : Option Request). HoldsNumber (after_all s (table.answered s file c x a o)) c y.number)
      (sym n.outstanding) (held.grant, held.held, held.same.same.number ∙ sym held.same.agrees.number)

  facts : HeldFacts file s c x j.input
  facts = record {
    holding = λ y has.
        (let held : HeldIs file f.kept.map s c x (kept_for slot x.outstanding) (Some y) =
        subst (HeldIs file f.kept.map s c x (kept_for slot x.outstanding)) has
        (is_client laws.turns w h m count f g s pairs k tied j goes).held in
        (held.grant, held.held, held.same.same.number ∙ sym held.same.agrees.number));
    unheld = unheld_ laws.turns w h m count f g s pairs k tied j goes;
    again = never laws.turns w h m count f g s pairs k tied j goes;
    answered = answered_holds;
  }

  -- ---- the client behind its step

  heard : IsHeardByClient w c j.input
  heard = by j.input refl
    where
      by : (i : Input) → j.input ≡ i → IsHeardByClient w c i
      by (Hears from b) is =
          let d : IsForClient w m.action c mine.before (Hears from b) =
          subst (IsForClient w m.action c mine.before) is mine.input_is in (d.0, d.1, d.2)
      by (Calls op) is = tt
      by (TimesOut n) is = tt
      by Leaves is = tt
      by Resends is = tt

  next_fine : ClientFine NamesIt AnyKnown next
  next_fine =
      subst (λ (y : Client). ClientFine NamesIt AnyKnown (step y j.input).client) (sym mine.state_is)
      (step_names laws.turns.client.reading.more laws.turns.held.own laws.turns.held.right.world.agree w h moment
      (through laws.turns w h m count f g s pairs k tied j goes) c mine.before mine.found names j.input heard)
    where
      names : AllName (client_of w c).held
      names file_ y e n backed =
          capabilities_name_grants laws.turns.client.reading.more laws.turns.held.own laws.turns.held.right.world.agree w h moment
          (through laws.turns w h m count f g s pairs k tied j goes) c file_ y e n backed

  next_works : ClientWorks next
  next_works =
      works_kept.steps 0 x j.input 0 false 0
      (subst ClientWorks (sym mine.state_is)
      (clients_always (λ n y. ClientWorks y) works_kept w (reached w h moment) c mine.before mine.found))

  next_made : ClientMade next
  next_made =
      step_made x j.input
      (subst ClientMade (sym mine.state_is) (all_made w (reached w h moment) c mine.before mine.found))

  few : AreFew h
  few = fewer h (take count (lines_in w m)) k.shown.follows.calm.scenario.few

  next_placed : ClientFits c next
  next_placed =
      let p : IsPlacedWorld w h = at_moment IsPlacedWorld all_placed w h moment in
      let fit : AnswersFit (sent_in h) =
      laws.answers h (lawful_at w h moment) (text laws.turns w h m count f g s pairs k tied j goes) few in
      let act : ActFits (acts w m.chosen m.action) =
      acts_fit (sent_in h) fit w (p.clients fit) (sym (sent_read w p.known.read.injected h p.known.read.drives)) m.chosen
      m.action in
      subst (ClientFits c) mine.behind (act.clients c mine.after mine.mine)

  -- ---- its call

  module _ (call : Call) (is : next.call ≡ Some call) (here : (file_of call.op == file) ≡ true)
      (working : IsWorking call.phase) where
    fine : CallFine AnyKnown next.held next.outstanding (Some call)
    fine = subst (CallFine AnyKnown next.held next.outstanding) is next_fine.call

    works : CallWorks next.held (Some call)
    works = subst (CallWorks next.held) is next_works

    abbrev held : Held
    held = (works.0 working).0

    holds : held_of next.held (file_of call.op) ≡ Some held
    holds = (works.0 working).1

    holds_here : held_of next.held file ≡ Some held
    holds_here = ap (held_of next.held) (sym (eqb-true (file_of call.op) file here)) ∙ holds

    one : HoldsNumber (after_all s (table.at_first s file c x j.input)) c held.number
    one = turn_holds file s c x j.input facts call is working held holds_here

    within : (span_of call.op).length ≤ MAX_CALL
    within = ltb-false MAX_CALL (span_of call.op).length (first_false _ _ fine.0.range)

    -- what it awaits
    module _ (b : Awaited) (there : In b (awaited_in call.phase)) where
      made : IsMade held (span_of call.op).length b
      made =
          each_in (IsMade held (span_of call.op).length) (awaited_in call.phase) b
          (subst (λ (o : Option Held). UnderMade o call.op call.phase) holds (subst (CallMade next.held) is next_made.call)).0
          there

      may : MaySend b.drive b.command
      may = one_in AwaitedPlaced (awaited_in call.phase) b (subst (CallFits next.held) is next_placed.call).0 there

      abbrev own : Command
      own = command held made.write made.store made.nonce

      is_own : b.command ≡ own
      is_own = ap (λ (y : Awaited). y.command) made.is

      backed : b.command.capability ≡ no_capability → ⊥
      backed none =
          let zero_ : b.command.capability.partition ≡ 0 = ap (λ (y : Capability). y.partition) none in
          omega (arith, may.placed.partition, may.placed.here, zero_)

      its_grant : b.command.capability.grant ≡ one.0.number
      its_grant =
          let same_ : b.command.capability ≡ (credential_of held made.store.ask.component).capability =
          ap (λ (y : Command). y.capability) is_own ∙ made_capability held made.write made.store made.nonce in
          ap (λ (y : Capability). y.grant) same_
          ∙ next_fine.helds (file_of call.op) held holds made.store.ask.component (λ none. backed (same_ ∙ none)) ∙ sym one.2

      kind : (b.command.action ≡ action.Read) ⊎ ((b.command.action ≡ action.Write) × (is_write call.op ≡ true))
      kind = elim may.placed.action [
        | inl r ↦ inl r
        | inr v ↦ inr (
          v,
          scatter_writes AnyKnown (held_of next.held (file_of call.op)) next.outstanding call.op call.phase fine.1
              (sym ((works.1 held holds).ones b there).action ∙ ap is_write_action v),
        )
      ]

      low : b.command.nonce < 2 ^ 64
      low =
          let below : b.command.nonce ≤ held.number * NONCES + held.count = (works.1 held holds).nonces.below b there in
          let number : held.number < 2 ^ 32 = subst (λ (n : ℕ). n < 2 ^ 32) (its_grant ∙ one.2) may.capability.grant in
          let count : held.count < NONCES = k.shown.follows.room.commands j goes call is b there held holds in
          omega (arith, below, number, count)

      read : reading (spelling b.command) ≡ Ok b.command
      read =
          let nonce : made.nonce < 2 ^ 64 =
          nonce_of held made.write made.store made.nonce (subst (λ (y : Command). y.nonce < 2 ^ 64) is_own low) in
          let length_ : made.store.ask.length < 2 ^ 32 = omega (arith, made.carries.1, within) in
          subst (λ (y : Command). reading (spelling y) ≡ Ok y) (sym is_own)
          (made_read held made.write made.store made.nonce b.drive (next_made.grants (file_of call.op) held holds).keyed
          made.carries.0 (subst (MaySend b.drive) is_own may) nonce length_)

      command_is : CommandIs one.0 (is_write call.op) b.command
      command_is = record { kind = kind; grant = its_grant; read = read }

    -- what it sends
    each_sent : (rs : List RecallAnswer) (qs : List Request) (cs : List Awaited) →
        (step x j.input).sends ≡ map AnswersRecall rs ++ (map Asks qs ++ map to_drive cs) → (a : Awaited) → In a cs →
        CommandIs one.0 (is_write call.op) a.command
    each_sent rs qs cs sends a i =
        let sent : In (ToDrive a.drive a.command) (step x j.input).sends =
        subst (In (ToDrive a.drive a.command)) (sym sends)
        (in_behind (ToDrive a.drive a.command) (map AnswersRecall rs) (map Asks qs ++ map to_drive cs)
        (in_behind (ToDrive a.drive a.command) (map Asks qs) (map to_drive cs) (in_map to_drive a cs i))) in
        let r = sends_awaited x j.input before_works a.drive a.command sent in
        subst (CommandIs one.0 (is_write call.op)) r.2
        (command_is r.0 (subst (λ (o : Option Call). In r.0 (awaited_of o)) is r.1))
      where
        before_works : ClientWorks x
        before_works =
            subst ClientWorks (sym mine.state_is)
            (clients_always (λ n y. ClientWorks y) works_kept w (reached w h moment) c mine.before mine.found)

    all_held : (rs : List RecallAnswer) (qs : List Request) (cs : List Awaited) →
        (step x j.input).sends ≡ map AnswersRecall rs ++ (map Asks qs ++ map to_drive cs) →
        HoldsFor file c (after_all s (table.at_first s file c x j.input)) pairs
        (entry_in (at_number (head_log c j.input (moment_of h).log).pending c)) (op_in x j.input) next call cs
    all_held rs qs cs sends = record {
      held = held;
      holds = holds_here;
      grant = one.0;
      has = one.1;
      each = each_sent rs qs cs sends;
    }

-- The commands of each turn are so.
pub commands_are_held : CommandLaws → CommandsAreHeld
commands_are_held laws w h m count f g s pairs k tied some j goes call is here working rs qs cs sends =
    all_held laws w h m count f g s pairs k tied j goes call is here working rs qs cs sends

-- So all is known that the turns of clients need.
pub facts_of : CommandLaws → FactLaws
facts_of laws = record {
  client = laws.turns.client;
  held = laws.turns.held;
  commands = commands_are_held laws;
}
