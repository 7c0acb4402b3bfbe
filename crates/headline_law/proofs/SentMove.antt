-- A client's move: each WRITE that was sent to a component that stands was sent in the machine.
-- Towards `SentGoesOn` (`relation_law/specs/Steps.antt`).
use Rattle.std.proofs.Common.{◌≡◌, ◌⊎◌, ◌++◌, ◌<◌, ℕ, Bool, true, false, List, Some, slice_get, refl, sym, ap, subst, ◌∙◌, inl, inr, eq-eqb, arith}
use Rattle.osd_drive.specs.Table.{is_write as is_write_action}
use Rattle.osd_commands.specs.declared.actions.Action.{Action}
use Rattle.osd_commands.specs.declared.actions.Action.TheVariants.{Write as ToWrite}
use Rattle.osd_commands.specs.declared.commands.Command.{Command}
use Rattle.osd_capability.specs.declared.layout.Capability.{Capability}
use Rattle.scenario_text.specs.declared.line.Line.{Line}
use Rattle.scenario_text.specs.declared.names.TheConstants.{CLIENTS}
use Rattle.server_rules.specs.Files.{file_at}
use Rattle.server_rules.specs.Laws.{In}
use Rattle.server_rules.specs.Slots.{slot_of}
use Rattle.client_rules.specs.Calls.{file_of}
use Rattle.client_rules.specs.Commands.{no_capability, credential_of}
use Rattle.client_rules.specs.Grants.{held_of}
use Rattle.client_rules.specs.History.{Input, Calls, Hears, TimesOut, Leaves, Resends, step}
use Rattle.client_rules.specs.Io.{awaited_in}
use Rattle.world_history.specs.ClientNames.{Awaited, Call, Client, Credential, Held, ToDrive}
use Rattle.world_history.specs.ServerNames.{File, Component, Server}
use Rattle.world_history.specs.State.{World}
use Rattle.world_history.specs.Moves.{acts}
use Rattle.world_history.specs.Sending.{Move, move}
use Rattle.history_law.specs.Moments.{IsMoment, lines_in}
use Rattle.exchange_law.specs.Counters.{ClientsAreCounted}
use Rattle.exchange_law.specs.Sent.{HasSent, IsBacked}
use Rattle.exchange_law.proofs.RefusalSending.{resent_awaited}
use Rattle.fence_law.specs.State.{State, Event, Grant}
use Rattle.file_simulation.specs.Calls.{IsClient}
use Rattle.file_simulation.specs.Claim.{IsOfScenario}
use Rattle.file_simulation.specs.ClientEvents as table
use Rattle.file_simulation.specs.ClientEvents.{Going, going_in}
use Rattle.file_simulation.specs.Events.{joined, events_of}
use Rattle.file_simulation.specs.Grants.{LayoutIs}
use Rattle.file_simulation.specs.Messages.{WasSent}
use Rattle.file_simulation.specs.Relation.{client_of}
use Rattle.file_simulation.specs.Requests.{kept_for}
use Rattle.relation_law.specs.Frames.{ByClient, IsSameFile, IsOfClient, ServerStays}
use Rattle.relation_law.specs.MessagesWrites.{WritesAreSent}
use Rattle.relation_law.specs.Steps.{FollowsWhole, owed, whole_behind}
use Rattle.relation_law.proofs.CallsGo.{WritesHavePlans}
use Rattle.relation_law.proofs.CallsOwnMove.{client_there, behind_is}
use Rattle.relation_law.proofs.ComponentsAbove.{sent_either, backed}
use Rattle.relation_law.proofs.ComponentsMoved.{MovedLaws, behind as moment_behind, later, scenario, run, safe, awaits}
use Rattle.relation_law.proofs.DriveShows.{listed}
use Rattle.relation_law.proofs.FramesFiles.{file_stays}
use Rattle.relation_law.proofs.FramesGrow.{log_grows}
use Rattle.relation_law.proofs.FramesParties as parties
use Rattle.relation_law.proofs.FramesStay.{all_joined, server_stays_all}
use Rattle.relation_law.proofs.MessagesSent.{sent_stays}
use Rattle.relation_law.proofs.OwnFacts.{OwnWorld, facts, own_fits}
use Rattle.relation_law.proofs.PlanWorlds.{writes_have_plans}
use Rattle.relation_law.proofs.RequestsReturns.{low}
use Rattle.relation_law.proofs.TurnEnds.{PlansFit}
use Rattle.headline_law.proofs.SentHeld.{IsHeldFor, held_for, file_is, component_is, readable_then}
use Rattle.headline_law.proofs.SentNames.{capabilities_name_grants}
use Rattle.headline_law.proofs.SentTurn.{IsSentIn, SendsWrites, turn_writes, turn_behind}
use Rattle.headline_law.proofs.SentWrites.{NamesGrant}

-- what is known of the world
pub record SentLaws : Type 0 where
  pub moved : MovedLaws
  pub clients : ClientsAreCounted

abbrev pub own_of : SentLaws → OwnWorld
own_of laws = record { held = laws.moved.held; clients = laws.clients; server = laws.moved.made.counted }

pub plans_of : (laws : SentLaws) → WritesHavePlans
plans_of laws = writes_have_plans (record {
  own = own_of laws;
  counted = laws.moved.known.counted;
  one = laws.moved.known.one;
})

-- the call that awaits a WRITE that was sent in a client's move
pub record IsSentNew (v : World) (file c n : ℕ) (y : Command) : Type 0 where
  pub call : Call
  pub is : (client_of v c).call ≡ Some call
  pub here : file_of call.op ≡ file
  pub awaited : Awaited
  pub awaits : In awaited (awaited_in call.phase)
  pub command : awaited.command ≡ y
  pub place : awaited.ask.component ≡ n

pub is_write : (a : Action) → a ≡ ToWrite → is_write_action a ≡ true
is_write a e = ap is_write_action e

module _ (laws : SentLaws) (w : World) (h : List Line) (m : Move) (f g : File) (s : State) (k : FollowsWhole w h m f g s)
    (j : Going) (goes : going_in w m.action ≡ Some j) where
  abbrev v : World
  v = (move w m).world

  abbrev c : ℕ
  c = j.client

  abbrev x : Client
  x = j.state

  abbrev es : List Event
  es = joined (events_of s w (owed k.follows.related) f m)

  its : ByClient w m.action j (acts w m.chosen m.action)
  its = parties.client_goes w h k.follows.moment m k.follows.is_due j goes

  pub same : IsSameFile f g
  same = (file_stays w h k.follows.moment m k.follows.is_due f.kept.number f g k.follows.there k.follows.goes).same

  pub stay : ServerStays s (whole_behind k)
  stay =
      server_stays_all j.client s es
      (all_joined (IsOfClient j.client) (events_of s w (owed k.follows.related) f m)
      (parties.by_client_lines s w (owed k.follows.related) f m j goes))

  pub next : IsMoment (move w m).world (h ++ lines_in w m)
  next = moment_behind laws.moved w h m f g s k

  pub later_ : IsOfScenario (h ++ lines_in w m)
  later_ = later laws.moved w h m f g s k

  pub there_behind : file_at (move w m).world.server.files f.kept.number ≡ Some f
  there_behind = subst (λ (y : Server). file_at y.files f.kept.number ≡ Some f) (sym its.server) k.follows.there

  -- ---- what was sent before

  old_sent : (d e n : ℕ) (y : Command) (at : Component) → HasSent w d e y → y.action ≡ ToWrite →
      slice_get f.kept.components n ≡ Some at → y.object ≡ at.object → (whole_behind k).lost n ≡ false →
      WasSent (whole_behind k) d n y
  old_sent d e n y at has write found object lost =
      sent_stays s (whole_behind k) d n y (safe laws.moved w h m f g s k).known (log_grows s es)
      (k.follows.related.sent.writes d e n y at has write found object
      (sym (ap (λ (q : ℕ → Bool). q n) stay.lost) ∙ lost))

  -- ---- what is new

  module _ (none : j.input ≡ Resends → ⊥) where
    abbrev pub low_ : j.client < CLIENTS
    low_ = low laws.moved.held w h m f g s k j goes

    abbrev there : IsClient f.kept.number f.kept.map s j.client j.state
        (kept_for (slot_of w.server.slots j.client) j.state.outstanding)
    there = client_there w h m f g s k same.number same.map j goes low_ none

    pub plans : PlansFit f.kept.number f.kept.map j.client s j.state (slot_of w.server.slots j.client) there j.input
    plans = plans_of laws w h m f g s k j goes none there

    pub sends : SendsWrites f.kept.number f.kept.map j.client s j.state (slot_of w.server.slots j.client) there j.input
        (table.at_first s f.kept.number j.client j.state j.input) (step j.state j.input)
    sends =
        turn_writes f.kept.number f.kept.map j.client s j.state (slot_of w.server.slots j.client) there j.input
        (facts (own_of laws) w h m f g s k same.number same.map j goes none plans)
        (own_fits (own_of laws) w h m f g s k same.number same.map j goes none plans) none

    module _ (e n : ℕ) (y : Command) (at : Component) (has : HasSent (move w m).world j.client e y)
        (z : IsSentIn f.kept.number f.kept.map j.client s j.state (slot_of w.server.slots j.client) there j.input
        (table.at_first s f.kept.number j.client j.state j.input) (step j.state j.input) y)
        (found : slice_get f.kept.components n ≡ Some at) (object : y.object ≡ at.object) where
      client_is : client_of v c ≡ (step x j.input).client
      client_is = parties.client_behind w m j its

      pub call_is : (client_of v c).call ≡ Some z.call
      call_is = ap (λ (q : Client). q.call) client_is ∙ z.is

      backed_ : IsBacked z.awaited.command
      backed_ =
          subst IsBacked (sym z.command)
          (backed laws.moved.held laws.moved.fresh laws.moved.answers w h m f g s k next
          (later laws.moved w h m f g s k) (omega (arith, (scenario laws.moved w h m f g s k).few))
          (run laws.moved w h m f g s k) k.follows.there j goes j.client e y has)

      pub held : IsHeldFor v c z.call z.awaited
      held =
          held_for laws.moved.held laws.moved.fresh v (h ++ lines_in w m) next (later laws.moved w h m f g s k) c z.call call_is
          z.awaited z.awaits

      object_ : at.object ≡ z.awaited.command.object
      object_ = sym object ∙ ap (λ (q : Command). q.object) (sym z.command)

      pub file_ : file_of z.call.op ≡ f.kept.number
      file_ =
          file_is laws.moved.held laws.moved.fresh v (h ++ lines_in w m) next (later laws.moved w h m f g s k) c z.call call_is
          z.awaited z.awaits backed_ f there_behind n at found object_

      component_ : z.awaited.ask.component ≡ n
      component_ =
          component_is laws.moved.held laws.moved.fresh v (h ++ lines_in w m) next (later laws.moved w h m f g s k) c z.call
          call_is z.awaited z.awaits backed_ f
          (subst (λ (q : ℕ). file_at v.server.files q ≡ Some f) (sym file_) there_behind) n at found object_

      -- the command is under the grant that the machine's client holds
      names : (hh : Held) (y : Grant) → held_of (step x j.input).client.held f.kept.number ≡ Some hh →
          LayoutIs f.kept.map y hh → NamesGrant z.awaited.command y
      names hh y holds lay =
          let at_file : held_of (client_of v c).held f.kept.number ≡ Some hh =
          ap (λ (q : Client). held_of q.held f.kept.number) client_is ∙ holds in
          let both : Some held.held ≡ Some hh =
          sym held.holds ∙ ap (held_of (client_of v c).held) file_ ∙ at_file in
          let one : held.held ≡ hh = cc both in
          let capability : z.awaited.command.capability ≡ (credential_of hh z.awaited.ask.component).capability =
          held.of.capability ∙ ap (λ (q : Held). (credential_of q z.awaited.ask.component).capability) one in
          let some : (credential_of hh z.awaited.ask.component).capability ≡ no_capability → ⊥ =
          λ e. backed_ (capability ∙ e) in
          let l = listed hh z.awaited.ask.component some in
          record {
            grant = ap (λ (q : Capability). q.grant) capability
                ∙ capabilities_name_grants laws.moved.held.right.world.more laws.moved.held.own
                laws.moved.held.right.world.agree v (h ++ lines_in w m) next
                (readable_then laws.moved.held laws.moved.fresh v (h ++ lines_in w m) next (later laws.moved w h m f g s k)) c
                f.kept.number hh at_file z.awaited.ask.component some
                ∙ lay.agrees.number ∙ sym lay.same.number;
            tag = ap (λ (q : Capability). q.tag) (capability ∙ ap (λ (q : Credential). q.capability) l.4)
                ∙ lay.tag z.awaited.ask.component l.0 l.1 l.2 l.3;
          }

      new_sent : WasSent (whole_behind k) c n y
      new_sent =
          let sent = z.sent (eq-eqb (file_of z.call.op) f.kept.number file_) names in
          subst (λ (t : State). WasSent t c n y)
          (sym (behind_is w h m f g s k same.number same.map j goes low_ none))
          (subst (λ (q : ℕ). WasSent (turn_behind f.kept.number f.kept.map c s x (slot_of w.server.slots c) there j.input
          (table.at_first s f.kept.number c x j.input) (step x j.input)) c q y) component_
          (subst (λ (q : Command). WasSent (turn_behind f.kept.number f.kept.map c s x (slot_of w.server.slots c) there j.input
          (table.at_first s f.kept.number c x j.input) (step x j.input)) c z.awaited.ask.component q) z.command sent))

      new_of : IsSentNew v f.kept.number c n y
      new_of = record {
        call = z.call;
        is = call_is;
        here = file_;
        awaited = z.awaited;
        awaits = z.awaits;
        command = z.command;
        place = component_;
      }

    -- what the turn sends is awaited so
    pub turn_sent : (e n : ℕ) (y : Command) (at : Component) → HasSent (move w m).world j.client e y →
        In (ToDrive e y) (step j.state j.input).sends → is_write_action y.action ≡ true →
        slice_get f.kept.components n ≡ Some at → y.object ≡ at.object →
        IsSentNew (move w m).world f.kept.number j.client n y
    turn_sent e n y at has now write found object = new_of e n y at has (sends e y now write) found object

  -- ---- both

  pub resent : (i : Input) → j.input ≡ i → (i ≡ Resends) ⊎ (j.input ≡ Resends → ⊥)
  resent Resends is = inl refl
  resent (Calls op) is = inr (λ e. cc (sym is ∙ e))
  resent (Hears from b) is = inr (λ e. cc (sym is ∙ e))
  resent (TimesOut n) is = inr (λ e. cc (sym is ∙ e))
  resent Leaves is = inr (λ e. cc (sym is ∙ e))

  pub client_writes : WritesAreSent (whole_behind k) (move w m).world f
  client_writes d e n y at has write found object lost =
      elim (sent_either laws.moved.held laws.moved.fresh laws.moved.answers w h m f g s k next
      (later laws.moved w h m f g s k) (omega (arith, (scenario laws.moved w h m f g s k).few))
      (run laws.moved w h m f g s k) k.follows.there j goes d e y has) [
        | inl old ↦ old_sent d e n y at old write found object lost
        | inr now ↦ elim (resent j.input refl) [
          | inl is ↦
              let r = resent_awaited x e y (subst (λ (i : Input). In (ToDrive e y) (step x i).sends) is now.1) in
              let had : HasSent w c r.awaited.drive r.awaited.command =
              awaits laws.moved w h m f g s k j goes r.awaited r.there in
              old_sent d e n y at
              (subst (λ (q : ℕ). HasSent w q e y) (sym now.0)
              (subst (λ (q : ℕ). HasSent w c q y) r.drive
              (subst (λ (q : Command). HasSent w c r.awaited.drive q) r.command had))) write found object lost
          | inr none ↦
              subst (λ (q : ℕ). WasSent (whole_behind k) q n y) (sym now.0)
              (new_sent none e n y at (subst (λ (q : ℕ). HasSent (move w m).world q e y) now.0 has)
              (sends none e y now.1 (is_write y.action write)) found object)
        ]
      ]
