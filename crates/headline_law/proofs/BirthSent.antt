-- A move that makes a file: it gives the server that to do, the file is new, and nothing was sent for its objects but CREATEs.
-- Towards `EachFileIsCreated` (`file_simulation/specs/Simulation.antt`).
use Rattle.std.proofs.Common.{◌≡◌, ◌++◌, ℕ, Bool, List, Option, Some, None, slice_get, refl, sym, ap, subst, ◌∙◌, arith, inl, inr}
use Rattle.osd_lists.specs.declared.node.Node.TheVariants as node
use Rattle.data_map.specs.declared.check.RawMap.{RawMap}
use Rattle.osd_commands.specs.declared.actions.Action.TheVariants as action
use Rattle.osd_commands.specs.declared.commands.Command.{Command}
use Rattle.osd_objects.specs.declared.object.StoredObject.{StoredObject}
use Rattle.scenario_text.specs.declared.line.Line.{Line}
use Rattle.server_rules.specs.Files.{file_at}
use Rattle.server_rules.specs.History.{Input, Makes, step}
use Rattle.server_rules.specs.Laws.{In}
use Rattle.server_rules.proofs.Members.{in_map}
use Rattle.world_history.specs.Book.{step_by}
use Rattle.world_history.specs.declared.messages.Message.{Message}
use Rattle.world_history.specs.Handed.{Post}
use Rattle.world_history.specs.Moves.{acts}
use Rattle.world_history.specs.Plans.{due}
use Rattle.world_history.specs.Sending.{Move, move}
use Rattle.world_history.specs.ServerNames.{Server, File, Component, ToDrive}
use Rattle.world_history.specs.State.{World, at_number}
use Rattle.history_law.specs.BookMoments.{IsMoment, plan_at, lines_in}
use Rattle.history_law.specs.Doing.{input_in}
use Rattle.history_law.proofs.Doing.{server_moves}
use Rattle.history_law.proofs.Goes.{moves_are_steps}
use Rattle.component_law.specs.Going.{IsMaking, EachStepTells}
use Rattle.component_law.specs.Sent.{commanded}
use Rattle.component_law.specs.Sound.{IsSound}
use Rattle.component_law.proofs.Doing.{Does, Rests, Serves, Tells, does}
use Rattle.component_law.proofs.Moments.{allowed_at, each_second, named_action}
use Rattle.component_law.specs.Naming.{IsNamed, AreNamed}
use Rattle.exchange_law.proofs.LatestLaw.{sent_split}
use Rattle.exchange_law.proofs.Replied.{from_server}
use Rattle.exchange_law.specs.Doing.{posted}
use Rattle.exchange_law.specs.Sent.{HasSent, message_of}
use Rattle.file_simulation.specs.Components.{object_on, object_of}
use Rattle.file_simulation.specs.Messages.{HasCommanded}
use Rattle.file_simulation.specs.Relation.{client_of}
use Rattle.relation_law.specs.DriveHearing.{AwaitedAreSent}
use Rattle.relation_law.proofs.DriveAlike.{server_move_alike}
use Rattle.relation_law.proofs.DriveStays.{IsAlike}
use Rattle.relation_law.proofs.FramesParties.{clients_rest, server_alone, server_rests}
use Rattle.headline_law.specs.Used.{ObjectsAreUsed}
use Rattle.headline_law.proofs.BornFiles.{IsBorn, born, born_sends, born_slots}

-- what comes to the server makes a file of this number
pub record Making (n : ℕ) (i : Input) : Type 0 where
  pub map : RawMap
  pub tag : ℕ
  pub zoned : Bool
  pub is : i ≡ Makes n map tag zoned

making_of : (n : ℕ) (i : Input) → IsMaking i n → Making n i
making_of n (Makes k m tag zoned) e =
    record { map = m; tag = tag; zoned = zoned; is = ap (λ (x : ℕ). Makes x m tag zoned) e }
making_of n i e = absurd e

module _ (tells : EachStepTells) (w : World) (h : List Line) (m : Move) (k : IsMoment w h)
    (is_due : due (plan_at k) w ≡ Some m.action) (named : AreNamed (h ++ lines_in w m)) (sound : IsSound w.server)
    (sent : AwaitedAreSent w) (used : ObjectsAreUsed w) (f : File) (absent : file_at w.server.files f.kept.number ≡ None)
    (there : file_at (move w m).world.server.files f.kept.number ≡ Some f) where
  abbrev v : World
  v = (move w m).world

  abbrev n : ℕ
  n = f.kept.number

  -- what the move gives the server, and what that does
  pub record IsMade : Type 0 where
    pub input : Input
    pub making : Making n input
    pub server : v.server ≡ (step w.server m.chosen input).state
    pub tells_them : Tells (acts w m.chosen m.action).posts (step w.server m.chosen input).sends

  by_does : Does w m.chosen (acts w m.chosen m.action) → IsMade
  by_does (Rests same down none) =
      absurd (cc (sym absent ∙ ap (λ (s : Server). file_at s.files n) (sym same) ∙ there))
  by_does (Serves i comes server down them) =
      let there_then : file_at (step w.server m.chosen i).state.files n ≡ Some f =
      ap (λ (s : Server). file_at s.files n) (sym server) ∙ there in
      let goes = tells w.server m.chosen i sound comes.named n in
      record {
        input = i;
        making = making_of n i (rw (absent, there_then) at goes);
        server = server;
        tells_them = them;
      }

  pub is_made : IsMade
  is_made =
      by_does (does w m.chosen m.action
      (named_action m.action (move w m).lines (each_second IsNamed h (lines_in w m) named))
      (allowed_at w h k m.action is_due))

  making : Making n is_made.input
  making = is_made.making

  goes_on : v.server ≡ (step w.server m.chosen (Makes n making.map making.tag making.zoned)).state
  goes_on = is_made.server ∙ ap (λ (i : Input). (step w.server m.chosen i).state) making.is

  pub is_born : IsBorn w.server f
  is_born =
      born w.server m.chosen n making.map making.tag making.zoned f absent
      (ap (λ (s : Server). file_at s.files n) (sym goes_on) ∙ there)

  pub same_slots : v.server.slots ≡ w.server.slots
  same_slots =
      ap (λ (s : Server). s.slots) goes_on ∙ born_slots w.server m.chosen n making.map making.tag making.zoned

  -- the server took a step
  input_some : (o : Option Input) → input_in w m.action ≡ o → (i : Input) × (input_in w m.action ≡ Some i)
  input_some None none =
      absurd (cc (sym absent ∙ ap (λ (s : Server). file_at s.files n) (sym (server_rests w m none)) ∙ there))
  input_some (Some i) is = (i, is)

  input_is : (i : Input) × (input_in w m.action ≡ Some i)
  input_is = input_some (input_in w m.action) refl

  pub same_clients : (c : ℕ) → client_of v c ≡ client_of w c
  same_clients c = clients_rest w h k m is_due (server_alone w m.action input_is.0 input_is.1) c

  alike : IsAlike w v
  alike =
      server_move_alike w m.chosen sent m.action (allowed_at w h k m.action is_due)
      (server_alone w m.action input_is.0 input_is.1) input_is.0 input_is.1

  -- ---- its objects

  pub none_stored : (i : ℕ) (at : Component) → slice_get f.kept.components i ≡ Some at → object_of v at ≡ None
  none_stored i at e =
      by (object_on (at_number w.drives at.drive) at.object) refl
    where
      by : (o : Option StoredObject) → object_on (at_number w.drives at.drive) at.object ≡ o → object_of v at ≡ None
      by None none = alike.objects at.drive at.object ∙ none
      by (Some x) is =
          let low = used.stored at.drive at.object x is in
          absurd (omega (arith, low, is_born.new i at e))

  posted_in : (ps : List Post) (p : Post) → In p ps → In p.message (posted ps)
  posted_in ps p i = in_map (λ (y : Post). y.message) p ps i

  -- clients sent nothing for them
  pub none_sent : (c d i : ℕ) (x : Command) (at : Component) → HasSent v c d x → slice_get f.kept.components i ≡ Some at →
      x.object ≡ at.object → ⊥
  none_sent c d i x at has e object =
      elim (sent_split w (acts w m.chosen m.action) (message_of c d x) (moves_are_steps w m.chosen m.action).said has) [
        | inl old ↦
            let low = used.sent c d x old in
            omega (arith, low, object, is_born.new i at e)
        | inr (p, j, is) ↦
            let posts = (server_moves w m).posts (step w.server m.chosen input_is.0)
            (ap (step_by w.server m.chosen) input_is.1) in
            let from : p.message.from ≡ node.Server =
            from_server p.message (step w.server m.chosen input_is.0).sends
            (subst (λ (ps : List Post). In p.message (posted ps)) posts (posted_in (acts w m.chosen m.action).posts p j)) in
            cc (sym from ∙ sym (ap (λ (y : Message). y.from) is))
      ]

  -- the server but CREATEs
  pub all_creates : (d i : ℕ) (x : Command) (at : Component) → HasCommanded v d x → slice_get f.kept.components i ≡ Some at →
      x.object ≡ at.object → x.action ≡ action.Create
  all_creates d i x at has e object =
      elim (sent_split w (acts w m.chosen m.action) (commanded d x) (moves_are_steps w m.chosen m.action).said has) [
        | inl old ↦
            let low = used.commanded d x old in
            absurd (omega (arith, low, object, is_born.new i at e))
        | inr (p, j, is) ↦
            born_sends w.server m.chosen n making.map making.tag making.zoned d x
            (subst (λ (i : Input). In (ToDrive d x) (step w.server m.chosen i).sends) making.is
            (is_made.tells_them d x
            (subst (λ (y : Message). In y (posted (acts w m.chosen m.action).posts)) (sym is)
            (posted_in (acts w m.chosen m.action).posts p j))))
      ]
