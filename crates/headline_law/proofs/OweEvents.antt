-- Of the events that come of what a drive is told, or of its failure, a repair's have the words of one list of bytes.
-- Towards `OweFollows` and `DoneFollows` (`specs/Parts.antt`).
use Rattle.std.proofs.Common.{ℕ, List, [], ◌∷◌, Option, Some, None, Result, Ok, Err, refl}
use Rattle.std.specs.Prelude.{◌+◌, ◌==◌, not, find, slice_get}
use Rattle.osd_lists.specs.declared.node.Node.{Node}
use Rattle.osd_lists.specs.declared.node.Node.TheVariants as node
use Rattle.osd_commands.specs.declared.actions.Action.{Action}
use Rattle.osd_commands.specs.declared.actions.Action.TheVariants.{Read, Write, SetTag}
use Rattle.osd_commands.specs.declared.commands.Command.{Command}
use Rattle.osd_commands.specs.declared.commands.CommandErr.{CommandErr}
use Rattle.scenario_text.specs.declared.event.Event.{Event as Told}
use Rattle.scenario_text.specs.declared.event.Event.TheVariants as scenario
use Rattle.world_history.specs.ServerNames.{File, Component}
use Rattle.world_history.specs.declared.messages.Message.{Message}
use Rattle.world_history.specs.declared.messages.Posted.{Posted}
use Rattle.world_history.specs.State.{World, DriveAt, at_number}
use Rattle.world_history.specs.Drives.{command_in, verdict_on, is_deaf}
use Rattle.world_history.specs.Stripes.{component_at}
use Rattle.world_history.specs.Moves as moves
use Rattle.fence_law.specs.State.{State, Event, Write as MachineWrite}
use Rattle.file_simulation.specs.Relation.{client_of}
use Rattle.file_simulation.specs.DriveEvents as table
use Rattle.relation_law.specs.Frames.{AreAll, LinesAre}
use Rattle.relation_law.proofs.FramesStay.{all_more}
use Rattle.relation_law.proofs.FramesClient.{where_all}
use Rattle.headline_law.proofs.OweMachine.{IsOwed}

module _ (e : ℕ → ℕ) where
  abbrev Owed : List Event → Type 0
  Owed = AreAll (IsOwed e)

  -- ---- what a drive performs

  performs : (o : Option MachineWrite) → Owed (table.performs o)
  performs None = tt
  performs (Some m) = (tt, tt)

  of_client : (s : State) (w : World) (file k c : ℕ) (x : Command) (a : Action) → Owed (table.of_client s w file k c x a)
  of_client s w file k c x Read =
      where_all (IsOwed e) (table.is_running file x.nonce (client_of w c).call) _ (tt, tt)
  of_client s w file k c x Write = performs (find (table.is_write c k x.nonce) s.writes)
  of_client s w file k c x a = tt

  of_server : (k : ℕ) (x : Command) (a : Action) → Owed (table.of_server e k x a)
  of_server k x SetTag = (tt, tt)
  of_server k x Write = (refl, tt)
  of_server k x a = tt

  performed_of : (s : State) (w : World) (file k : ℕ) (x : Command) (from : Node) →
      Owed (table.performed_of s w e file k x from)
  performed_of s w file k x (node.Client c) = of_client s w file k c x x.action
  performed_of s w file k x node.Server = of_server k x x.action
  performed_of s w file k x (node.Drive d) = tt

  performed_on : (s : State) (w : World) (f : File) (x : Command) (from : Node) (o : Option ℕ) →
      Owed (table.performed_on s w e f x from o)
  performed_on s w f x from None = tt
  performed_on s w f x from (Some k) =
      where_all (IsOwed e) (not (s.lost k)) _ (performed_of s w f.kept.number k x from)

  -- ---- what a drive judges

  judged : (s : State) (w : World) (f : File) (d : ℕ) (a : DriveAt) (from : Node) (r : Result Command CommandErr) →
      Owed (table.judged s w e f d a from r)
  judged s w f d a from (Err cause) = tt
  judged s w f d a from (Ok x) =
      where_all (IsOwed e) (table.is_performed (verdict_on a.state a.clock (Ok x))) _
      (performed_on s w f x from (component_at d x.object f.kept.components 0))

  heard : (s : State) (w : World) (f : File) (d : ℕ) (m : Message) (o : Option DriveAt) → Owed (table.heard s w e f d m o)
  heard s w f d m None = tt
  heard s w f d m (Some a) = where_all (IsOwed e) (not (is_deaf a)) _ (judged s w f d a m.from (command_in m.body))

  heard_at : (s : State) (w : World) (f : File) (m : Message) (to : Node) → Owed (table.heard_at s w e f m to)
  heard_at s w f m (node.Drive d) = heard s w f d m (at_number w.drives d)
  heard_at s w f m (node.Client c) = tt
  heard_at s w f m node.Server = tt

  delivered : (s : State) (w : World) (f : File) (o : Option Posted) → Owed (table.delivered s w e f o)
  delivered s w f None = tt
  delivered s w f (Some p) = heard_at s w f p.message p.message.to

  fails : (d : ℕ) (cs : List Component) (k : ℕ) → Owed (table.fails_from d cs k)
  unfolding table.fails_from
  fails d [] k = tt
  fails d (at ∷ cs) k =
      all_more (IsOwed e) _ (table.fails_from d cs (k + 1)) (where_all (IsOwed e) (at.drive == d) _ (tt, tt))
      (fails d cs (k + 1))

  opened : (s : State) (w : World) (f : File) (x : Told) → Owed (table.opened s w e f x)
  opened s w f (scenario.Deliver number) = delivered s w f (slice_get w.network.messages number)
  opened s w f (scenario.Inject d bytes) = delivered s w f (find (table.is_sent_as d bytes) w.network.messages)
  opened s w f (scenario.Fail d) = fails d f.kept.components 0
  opened s w f x = tt

  -- so are all events of a drive in a move
  pub drive_owed : (s : State) (w : World) (f : File) (a : moves.Action) →
      LinesAre (IsOwed e) (table.drive_events s w e f a)
  drive_owed s w f (moves.Opens x) = (opened s w f x, tt)
  drive_owed s w f (moves.Delivers number) = (delivered s w f (slice_get w.network.messages number), tt)
  drive_owed s w f (moves.TimesOut c k) = tt
  drive_owed s w f (moves.Pends c) = tt
