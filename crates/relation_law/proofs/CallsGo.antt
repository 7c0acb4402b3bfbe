-- Each move of a calm history keeps what the machine has of the clients' calls and of the grants that they hold.
-- Towards `CallsGoOn` (`relation_law/specs/Steps.antt`).
use Rattle.std.proofs.Common.{◌≡◌, ◌<◌, ℕ, Bool, true, false, List, [], Option, Some, None, refl, sym, ap, subst, ◌∙◌, inl, inr}
use Rattle.std.proofs.lemmas.Bool.{true≢false, cases_eq}
use Rattle.osd_lists.specs.declared.node.Node.{Node}
use Rattle.osd_lists.specs.declared.node.Node.TheVariants as node
use Rattle.data_map.specs.Check.{IsChecked}
use Rattle.scenario_text.specs.declared.line.Line.{Line}
use Rattle.scenario_text.specs.declared.names.TheConstants.{CLIENTS}
use Rattle.server_rules.specs.History.{Input, Hears, Makes, Obeys, Adds, Zones, Formats, Resends, Crashes, Opens, step as server_step}
use Rattle.server_rules.specs.Messages.{Message, Asks, Replies, Orders}
use Rattle.server_rules.specs.Slots.{slot_of}
use Rattle.client_rules.specs.History.{Input as ClientInput, Resends as ClientResends, Calls, Hears as ClientHears, TimesOut, Leaves, step}
use Rattle.world_history.specs.ServerNames.{Server, File}
use Rattle.world_history.specs.State.{World}
use Rattle.world_history.specs.Moves.{acts}
use Rattle.world_history.specs.Sending.{Move, move}
use Rattle.history_law.specs.Doing.{input_in}
use Rattle.exchange_law.specs.Meeting.{IsReadableThrough}
use Rattle.exchange_law.proofs.CountGrowing.{fewer, text_front}
use Rattle.exchange_law.proofs.HeldWorlds.{readable_there}
use Rattle.exchange_law.proofs.Knowing.{lawful_at}
use Rattle.fence_law.specs.Law.{IsCode}
use Rattle.fence_law.specs.State.{State, Event}
use Rattle.fence_law.specs.Machine.{after_all}
use Rattle.fence_law.proofs.Safe.{Safe}
use Rattle.plan_law.proofs.Codes.{layouts_are_codes}
use Rattle.file_simulation.specs.Calls.{IsClient}
use Rattle.file_simulation.specs.ClientEvents as clients
use Rattle.file_simulation.specs.ClientEvents.{Going, going_in}
use Rattle.file_simulation.specs.Events.{joined, events_of}
use Rattle.file_simulation.specs.Relation.{client_of}
use Rattle.file_simulation.specs.Requests.{kept_for}
use Rattle.file_simulation.specs.ServerEvents as table
use Rattle.relation_law.specs.CallsFrames.{AreBeside}
use Rattle.relation_law.specs.Frames.{ByClient, IsSameFile}
use Rattle.relation_law.specs.RequestsGoing.{is_served_in}
use Rattle.relation_law.specs.Steps.{FollowsWhole, KeptGoesOn, CallsGoOn, owed, whole_behind}
use Rattle.relation_law.proofs.CallsOthers.{stays, calls_by_drive, calls_beside, calls_unasked}
use Rattle.relation_law.proofs.CallsOwnMove.{client_there, calls_of_own, led_joined}
use Rattle.relation_law.proofs.FramesFiles.{file_stays}
use Rattle.relation_law.proofs.FramesParties as parties
use Rattle.relation_law.proofs.FramesStay.{all_joined}
use Rattle.relation_law.proofs.KeptGoing.{safe_of}
use Rattle.relation_law.proofs.RequestsOn.{served_is, slot_unserved}
use Rattle.relation_law.proofs.RequestsOwn.{lines_are, server_is}
use Rattle.relation_law.proofs.RequestsReturns.{low, is_client}
use Rattle.relation_law.proofs.Asked.{asked_client}
use Rattle.relation_law.proofs.AskedEvents.{IsQuiet, quiet_all}
use Rattle.relation_law.proofs.AskedNone.{server_quiet}
use Rattle.relation_law.proofs.OwnFacts.{OwnWorld, own_fits}
use Rattle.relation_law.proofs.TurnEnds.{PlansFit}

-- The plans of the writes that clients begin are those of their entries.
abbrev pub WritesHavePlans : Type 0
WritesHavePlans =
    (w : World) (h : List Line) (m : Move) (f g : File) (s : State) → FollowsWhole w h m f g s → (j : Going) →
    going_in w m.action ≡ Some j → (j.input ≡ ClientResends → ⊥) →
    (x : IsClient f.kept.number f.kept.map s j.client j.state
    (kept_for (slot_of w.server.slots j.client) j.state.outstanding)) →
    PlansFit f.kept.number f.kept.map j.client s j.state (slot_of w.server.slots j.client) x j.input

-- what is known of the world, and of the other parts
pub record CallLaws : Type 0 where
  pub own : OwnWorld
  pub kept : KeptGoesOn
  pub plans : WritesHavePlans

module _ (laws : CallLaws) (w : World) (h : List Line) (m : Move) (f g : File) (s : State) (k : FollowsWhole w h m f g s) where
  abbrev v : World
  v = (move w m).world

  abbrev Goal : ℕ → Type 0
  Goal c = IsClient g.kept.number g.kept.map (whole_behind k) c (client_of v c)
      (kept_for (slot_of v.server.slots c) (client_of v c).outstanding)

  same : IsSameFile f g
  same = (file_stays w h k.follows.moment m k.follows.is_due f.kept.number f g k.follows.there k.follows.goes).same

  safe_ : Safe s
  safe_ =
      let through : IsReadableThrough h =
      laws.own.held.right.readable h (lawful_at w h k.follows.moment) (text_front h _ k.follows.calm.scenario.text)
      (fewer h _ k.follows.calm.scenario.few) in
      let checked : IsChecked f.kept.map =
      ((readable_there w h k.follows.moment through).files f.kept.number f k.follows.there).map in
      safe_of s k.follows.run
      (subst IsCode (sym k.follows.related.layout) (layouts_are_codes f.kept.map f.kept.first_tag checked))

  -- ---- a client goes on

  own_goes : (j : Going) → going_in w m.action ≡ Some j → Goal j.client
  own_goes j goes = by_input j.input refl
    where
      its : ByClient w m.action j (acts w m.chosen m.action)
      its = parties.client_goes w h k.follows.moment m k.follows.is_due j goes

      slots : slot_of v.server.slots j.client ≡ slot_of w.server.slots j.client
      slots = ap (λ (y : Server). slot_of y.slots j.client) (parties.server_rests w m (parties.client_alone w m.action j goes))

      fresh : (j.input ≡ ClientResends → ⊥) → Goal j.client
      fresh none =
          calls_of_own w h m f g s k same.number same.map j goes (low laws.own.held w h m f g s k j goes) none
          (own_fits laws.own w h m f g s k same.number same.map j goes none
          (laws.plans w h m f g s k j goes none
          (client_there w h m f g s k same.number same.map j goes (low laws.own.held w h m f g s k j goes) none)))

      resent : j.input ≡ ClientResends → Goal j.client
      resent is =
          let events : joined (events_of s w (owed k.follows.related) f m)
          ≡ joined (clients.client_goes s f.kept.number j.client j.state j.input) =
          rw goes (led_joined m.action (clients.client_goes s f.kept.number j.client j.state j.input)) in
          let none : joined (clients.client_goes s f.kept.number j.client j.state j.input) ≡ [] =
          ap (λ (i : ClientInput). joined (clients.client_goes s f.kept.number j.client j.state i)) is in
          let whole : whole_behind k ≡ s = ap (after_all s) (events ∙ none) in
          let client : client_of v j.client ≡ j.state =
          parties.client_behind w m j its ∙ ap (λ (i : ClientInput). (step j.state i).client) is in
          rw (same.number, same.map, client, slots, whole) (is_client laws.own.held w h m f g s k j goes)

      by_input : (i : ClientInput) → j.input ≡ i → Goal j.client
      by_input ClientResends is = resent is
      by_input (Calls op) is = fresh (λ e. cc (sym is ∙ e))
      by_input (ClientHears from b) is = fresh (λ e. cc (sym is ∙ e))
      by_input (TimesOut n) is = fresh (λ e. cc (sym is ∙ e))
      by_input Leaves is = fresh (λ e. cc (sym is ∙ e))

  -- ---- the server takes a step

  server_goes : (i : Input) → input_in w m.action ≡ Some i → (c : ℕ) → c < CLIENTS → Goal c
  server_goes i comes c low_ = by_asker (table.asker i) refl
    where
      another : (table.asker i ≡ Some c → ⊥) → Goal c
      another other = calls_unasked w h m f g s k safe_ same.number same.map i comes c low_ other

      -- no request is carried out
      unserved : is_served_in w.server i ≡ false → Goal c
      unserved no_ =
          let all : AreBeside c s (joined (table.server_goes s w (server_step w.server m.chosen i) i (Some f) (Some g))) =
          quiet_all c s (joined (table.server_goes s w (server_step w.server m.chosen i) i (Some f) (Some g)))
          (all_joined IsQuiet (table.server_goes s w (server_step w.server m.chosen i) i (Some f) (Some g))
          (server_quiet s w (server_step w.server m.chosen i) i f g no_)) in
          stays w h m f g s k safe_ same.number same.map c low_
          (subst (λ (es : List Event). AreBeside c s es) (sym (lines_are w h m f g s k i comes)) all)
          (parties.clients_rest w h k.follows.moment m k.follows.is_due (parties.server_alone w m.action i comes) c)
          (ap (λ (z : Server). slot_of z.slots c) (server_is w h m f g s k i comes) ∙ slot_unserved w.server m.chosen c i no_)

      -- one is
      by_message : (now : ℕ) (from : Node) (b : Message) → i ≡ Hears now from b → table.asker i ≡ Some c →
          is_served_in w.server i ≡ true → Goal c
      by_message now (node.Client d) (Asks q) is asks yes_ =
          let served : table.is_served w.server d q ≡ true = ap (is_served_in w.server) (sym is) ∙ yes_ in
          let k_d = served_is w.server d q served in
          let here : q.client ≡ c = cc (ap table.asker (sym is) ∙ asks) in
          let same_client : d ≡ c = sym k_d.client ∙ here in
          asked_client laws.own.held laws.kept w h m f g s k same.number same.map now c q
          (comes ∙ ap Some is ∙ ap (λ (n : ℕ). Some (Hears now (node.Client n) (Asks q))) same_client) low_
          (subst (λ (n : ℕ). table.is_served w.server n q ≡ true) same_client served)
      by_message now (node.Client d) (Replies b) is asks yes_ = absurd (true≢false (sym yes_ ∙ ap (is_served_in w.server) is))
      by_message now (node.Client d) (Orders b) is asks yes_ = absurd (true≢false (sym yes_ ∙ ap (is_served_in w.server) is))
      by_message now node.Server b is asks yes_ = absurd (true≢false (sym yes_ ∙ ap (is_served_in w.server) is))
      by_message now (node.Drive d) b is asks yes_ = absurd (true≢false (sym yes_ ∙ ap (is_served_in w.server) is))

      by_input : (j : Input) → i ≡ j → table.asker i ≡ Some c → is_served_in w.server i ≡ true → Goal c
      by_input (Hears now from b) is asks yes_ = by_message now from b is asks yes_
      by_input (Obeys kind n) is asks yes_ = absurd (true≢false (sym yes_ ∙ ap (is_served_in w.server) is))
      by_input Opens is asks yes_ = absurd (true≢false (sym yes_ ∙ ap (is_served_in w.server) is))
      by_input (Makes n x tag zoned) is asks yes_ = absurd (true≢false (sym yes_ ∙ ap (is_served_in w.server) is))
      by_input (Adds d) is asks yes_ = absurd (true≢false (sym yes_ ∙ ap (is_served_in w.server) is))
      by_input (Zones d zone) is asks yes_ = absurd (true≢false (sym yes_ ∙ ap (is_served_in w.server) is))
      by_input (Formats n) is asks yes_ = absurd (true≢false (sym yes_ ∙ ap (is_served_in w.server) is))
      by_input Resends is asks yes_ = absurd (true≢false (sym yes_ ∙ ap (is_served_in w.server) is))
      by_input Crashes is asks yes_ = absurd (true≢false (sym yes_ ∙ ap (is_served_in w.server) is))

      mine : table.asker i ≡ Some c → (b : Bool) → is_served_in w.server i ≡ b → Goal c
      mine asks true e = by_input i refl asks e
      mine asks false e = unserved e

      by_asker : (o : Option ℕ) → table.asker i ≡ o → Goal c
      by_asker None is = another (λ e. cc (sym is ∙ e))
      by_asker (Some d) is = elim (cases_eq d c) [
        | inl e ↦ mine (is ∙ ap Some e) (is_served_in w.server i) refl
        | inr ne ↦ another (λ e. ne (cc (sym is ∙ e)))
      ]

  -- ---- all clients

  each_goes : (c : ℕ) → c < CLIENTS → Goal c
  each_goes c low_ = by_going (going_in w m.action) refl
    where
      by_comes : going_in w m.action ≡ None → (o : Option Input) → input_in w m.action ≡ o → Goal c
      by_comes none None is = calls_by_drive w h m f g s k safe_ same.number same.map none is c low_
      by_comes none (Some i) is = server_goes i is c low_

      by_going : (o : Option Going) → going_in w m.action ≡ o → Goal c
      by_going None is = by_comes is (input_in w m.action) refl
      by_going (Some j) is = elim (cases_eq c j.client) [
        | inl e ↦ subst Goal (sym e) (own_goes j is)
        | inr ne ↦ calls_beside w h m f g s k safe_ same.number same.map j is c low_ ne
      ]

-- Each move of a calm history keeps what the machine has of the clients' calls and grants.
pub calls_go_on : CallLaws → CallsGoOn
calls_go_on laws w h m f g s k c low_ = each_goes laws w h m f g s k c low_
