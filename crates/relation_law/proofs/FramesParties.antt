-- A move by its party: a client goes on, or the server takes a step, or a drive hears something, or nobody does anything.
use Rattle.std.proofs.Common.{◌≡◌, ℕ, List, Option, Some, None, refl, sym, ap, subst, ◌∙◌}
use Rattle.std.specs.Prelude.{slice_get}
use Rattle.osd_lists.specs.declared.node.Node.{Node}
use Rattle.osd_lists.specs.declared.node.Node.TheVariants as node
use Rattle.scenario_text.specs.declared.event.Event.{Event as Told}
use Rattle.scenario_text.specs.declared.event.Event.TheVariants as scenario
use Rattle.scenario_text.specs.declared.line.Line.{Line}
use Rattle.server_rules.specs.History.{Input, step as server_step}
use Rattle.client_rules.specs.History.{step}
use Rattle.world_history.specs.ServerNames.{File}
use Rattle.world_history.specs.declared.messages.Message.{Message}
use Rattle.world_history.specs.declared.messages.Posted.{Posted}
use Rattle.world_history.specs.State.{World}
use Rattle.world_history.specs.Moves.{Act, Action, Opens, Delivers, TimesOut, Pends, acts}
use Rattle.world_history.specs.Book.{server_behind, step_by}
use Rattle.world_history.specs.Plans.{due}
use Rattle.world_history.specs.Sending.{Move, move}
use Rattle.history_law.specs.BookMoments.{IsMoment, plan_at}
use Rattle.history_law.specs.Doing.{brought_to, brought, input_in, did_in}
use Rattle.history_law.proofs.Doing.{server_moves}
use Rattle.exchange_law.specs.InStep.{state_of}
use Rattle.exchange_law.proofs.SlotMoments.{comes_new}
use Rattle.fence_law.specs.State.{State, Event}
use Rattle.file_simulation.specs.Relation.{client_of}
use Rattle.file_simulation.specs.Events.{events_of}
use Rattle.file_simulation.specs.ClientEvents as client
use Rattle.file_simulation.specs.ClientEvents.{Going, going_in}
use Rattle.file_simulation.specs.ServerEvents.{asker, server_events}
use Rattle.file_simulation.specs.DriveEvents as drive
use Rattle.relation_law.specs.Frames.{AreAll, LinesAre, IsOfClient, IsOfServer, IsOfDrive, ByClient, ByNone, ByGoing, asker_in}
use Rattle.relation_law.proofs.FramesStay.{lines_more, lines_as}
use Rattle.relation_law.proofs.FramesClient.{client_lines, led_all}
use Rattle.relation_law.proofs.FramesServer.{server_lines}
use Rattle.relation_law.proofs.FramesDrive.{drive_lines}
use Rattle.relation_law.proofs.FramesMoves.{each_going}

-- ---- where a client goes on, nothing comes to the server

brings_none_to : (w : World) (m : Message) (to : Node) (g : Going) → client.hearing_at w m to ≡ Some g
    → brought_to w m to ≡ None
brings_none_to w m node.Server g is = absurd (cc is)
brings_none_to w m (node.Drive d) g is = refl
brings_none_to w m (node.Client c) g is = refl

brings_none : (w : World) (o : Option Posted) (g : Going) → client.delivered w o ≡ Some g → brought w o ≡ None
brings_none w None g is = refl
brings_none w (Some p) g is = brings_none_to w p.message p.message.to g is

opens_none : (w : World) (e : Told) (g : Going) → client.opened w e ≡ Some g → input_in w (Opens e) ≡ None
opens_none w (scenario.Do c x) g is = refl
opens_none w (scenario.Call c x) g is = refl
opens_none w (scenario.Leave c) g is = refl
opens_none w (scenario.Timeout c k) g is = refl
opens_none w (scenario.Deliver number) g is = brings_none w (slice_get w.network.messages number) g is
opens_none w e g is = absurd (cc is)

pub client_alone : (w : World) (a : Action) (g : Going) → going_in w a ≡ Some g → input_in w a ≡ None
client_alone w (Opens e) g is = opens_none w e g is
client_alone w (Delivers number) g is = brings_none w (slice_get w.network.messages number) g is
client_alone w (TimesOut c k) g is = refl
client_alone w (Pends c) g is = refl

-- where something comes to the server, no client goes on
pub server_alone : (w : World) (a : Action) (i : Input) → input_in w a ≡ Some i → going_in w a ≡ None
server_alone w a i is = either (going_in w a) refl
  where
    either : (o : Option Going) → going_in w a ≡ o → going_in w a ≡ None
    either None e = e
    either (Some g) e = absurd (cc (sym is ∙ client_alone w a g e))

-- ---- and no drive has an event

abbrev pub Never : Event → Type 0
Never e = ⊥

hears_none : (s : State) (w : World) (e : ℕ → ℕ) (f : File) (m : Message) (to : Node) (i : Input)
    → brought_to w m to ≡ Some i → AreAll Never (drive.heard_at s w e f m to)
hears_none s w e f m node.Server i is = tt
hears_none s w e f m (node.Client c) i is = tt
hears_none s w e f m (node.Drive d) i is = absurd (cc is)

is_none : (s : State) (w : World) (e : ℕ → ℕ) (f : File) (o : Option Posted) (i : Input) → brought w o ≡ Some i
    → AreAll Never (drive.delivered s w e f o)
is_none s w e f None i is = absurd (cc is)
is_none s w e f (Some p) i is = hears_none s w e f p.message p.message.to i is

opened_none : (s : State) (w : World) (e : ℕ → ℕ) (f : File) (x : Told) (i : Input) → input_in w (Opens x) ≡ Some i
    → AreAll Never (drive.opened s w e f x)
opened_none s w e f (scenario.Deliver number) i is = is_none s w e f (slice_get w.network.messages number) i is
opened_none s w e f (scenario.Inject d bytes) i is = absurd (cc is)
opened_none s w e f (scenario.Fail d) i is = absurd (cc is)
opened_none s w e f x i is = tt

pub drive_quiet : (s : State) (w : World) (e : ℕ → ℕ) (f : File) (a : Action) (i : Input) → input_in w a ≡ Some i
    → LinesAre Never (drive.drive_events s w e f a)
drive_quiet s w e f (Opens x) i is = (opened_none s w e f x i is, tt)
drive_quiet s w e f (Delivers number) i is = (is_none s w e f (slice_get w.network.messages number) i is, tt)
drive_quiet s w e f (TimesOut c k) i is = tt
drive_quiet s w e f (Pends c) i is = tt

-- ---- the events of a move by its party

module _ (s : State) (w : World) (e : ℕ → ℕ) (f : File) (m : Move) where
  -- a client goes on
  pub by_client_lines : (g : Going) → going_in w m.action ≡ Some g → LinesAre (IsOfClient g.client) (events_of s w e f m)
  by_client_lines g is = client_lines s w e f m g is

  -- something comes to the server
  pub by_server_lines : (i : Input) → input_in w m.action ≡ Some i
      → LinesAre (IsOfServer (asker i)) (events_of s w e f m)
  by_server_lines i is =
      let all : LinesAre (IsOfServer (asker_in (input_in w m.action)))
      (server_events s w f.kept.number (input_in w m.action) (did_in w m)) =
      server_lines s w f.kept.number (input_in w m.action) (did_in w m) in
      let mine : LinesAre (IsOfServer (asker i)) (server_events s w f.kept.number (input_in w m.action) (did_in w m)) =
      subst (λ (o : Option Input).
      LinesAre (IsOfServer (asker_in o)) (server_events s w f.kept.number (input_in w m.action) (did_in w m))) is all in
      rw (server_alone w m.action i is) (led_all (IsOfServer (asker i)) m.action _
      (lines_more (IsOfServer (asker i)) (server_events s w f.kept.number (input_in w m.action) (did_in w m)) _ mine
      (lines_as Never (IsOfServer (asker i)) (λ x none. absurd none) _ (drive_quiet s w e f m.action i is))))

  -- neither
  pub by_drive_lines : going_in w m.action ≡ None → input_in w m.action ≡ None → LinesAre IsOfDrive (events_of s w e f m)
  by_drive_lines none nothing =
      rw none (led_all IsOfDrive m.action _
      (lines_more IsOfDrive (server_events s w f.kept.number (input_in w m.action) (did_in w m)) _
      (quiet (input_in w m.action) nothing) (drive_lines s w e f m.action)))
    where
      quiet : (o : Option Input) → o ≡ None → LinesAre IsOfDrive (server_events s w f.kept.number o (did_in w m))
      quiet None is = tt
      quiet (Some i) is = absurd (cc is)

-- ---- the parties behind a move

-- what each client is, by whether one goes on
pub going_of : (w : World) (h : List Line) (k : IsMoment w h) (m : Move) → due (plan_at k) w ≡ Some m.action
    → ByGoing w m.action (going_in w m.action) (acts w m.chosen m.action)
going_of w h k m d = each_going w m.chosen m.action (λ c is. comes_new w h k c (d ∙ ap (λ (x : Action). Some x) is))

-- the client that goes on
pub client_goes : (w : World) (h : List Line) (k : IsMoment w h) (m : Move) → due (plan_at k) w ≡ Some m.action → (g : Going)
    → going_in w m.action ≡ Some g → ByClient w m.action g (acts w m.chosen m.action)
client_goes w h k m d g is =
    subst (λ (o : Option Going). ByGoing w m.action o (acts w m.chosen m.action)) is (going_of w h k m d)

-- where none goes on, each is as it was
pub clients_rest : (w : World) (h : List Line) (k : IsMoment w h) (m : Move) → due (plan_at k) w ≡ Some m.action
    → going_in w m.action ≡ None → (c : ℕ) → client_of (move w m).world c ≡ client_of w c
clients_rest w h k m d none c =
    let all : ByNone w (acts w m.chosen m.action) =
    subst (λ (o : Option Going). ByGoing w m.action o (acts w m.chosen m.action)) none (going_of w h k m d) in
    all.states c

-- the client that goes on is behind its step
pub client_before : (w : World) (action : Action) (g : Going) (a : Act) → ByClient w action g a
    → client_of w g.client ≡ g.state
client_before w action g a b = ap (state_of g.client) b.found ∙ sym b.state_is

pub client_behind : (w : World) (m : Move) (g : Going) → ByClient w m.action g (acts w m.chosen m.action)
    → client_of (move w m).world g.client ≡ (step g.state g.input).client
client_behind w m g b = ap (state_of g.client) b.mine ∙ b.behind

-- and any other is as it was
pub client_beside : (w : World) (m : Move) (g : Going) → ByClient w m.action g (acts w m.chosen m.action) → (c : ℕ)
    → (c ≡ g.client → ⊥) → client_of (move w m).world c ≡ client_of w c
client_beside w m g b c other = ap (state_of c) (b.others c other)

-- where nothing comes to the server, it is as it was
pub server_rests : (w : World) (m : Move) → input_in w m.action ≡ None → (move w m).world.server ≡ w.server
server_rests w m none = (server_moves w m).server ∙ by_input (input_in w m.action) none
  where
    by_input : (o : Option Input) → o ≡ None → server_behind w.server (step_by w.server m.chosen o) ≡ w.server
    by_input None is = refl
    by_input (Some i) is = absurd (cc is)

-- else it is behind its step
pub server_steps : (w : World) (m : Move) (i : Input) → input_in w m.action ≡ Some i
    → (move w m).world.server ≡ (server_step w.server m.chosen i).state
server_steps w m i is =
    (server_moves w m).server ∙ ap (λ (o : Option Input). server_behind w.server (step_by w.server m.chosen o)) is
