-- All events that come of what a drive is told, or of its failure, are of a drive.
use Rattle.std.proofs.Common.{ℕ, List, [], ◌∷◌, Option, Some, None, Result, Ok, Err}
use Rattle.std.specs.Prelude.{◌+◌, ◌==◌, not, find, slice_get}
use Rattle.osd_lists.specs.declared.node.Node.{Node}
use Rattle.osd_lists.specs.declared.node.Node.TheVariants as node
use Rattle.osd_commands.specs.declared.actions.Action.{Action}
use Rattle.osd_commands.specs.declared.actions.Action.TheVariants.{Read, Write, SetTag}
use Rattle.osd_commands.specs.declared.commands.Command.{Command}
use Rattle.osd_commands.specs.declared.commands.CommandErr.{CommandErr}
use Rattle.scenario_text.specs.declared.event.Event.{Event as Told}
use Rattle.scenario_text.specs.declared.event.Event.TheVariants as scenario
use Rattle.world_history.specs.ServerNames.{File, Component}
use Rattle.world_history.specs.declared.messages.Message.{Message}
use Rattle.world_history.specs.declared.messages.Posted.{Posted}
use Rattle.world_history.specs.State.{World, DriveAt, at_number}
use Rattle.world_history.specs.Drives.{command_in, verdict_on, is_deaf}
use Rattle.world_history.specs.Stripes.{component_at}
use Rattle.world_history.specs.Moves as moves
use Rattle.fence_law.specs.State.{State, Event, Write as MachineWrite}
use Rattle.file_simulation.specs.Relation.{client_of}
use Rattle.file_simulation.specs.DriveEvents as table
use Rattle.relation_law.specs.Frames.{AreAll, LinesAre, IsOfDrive}
use Rattle.relation_law.proofs.FramesStay.{all_more}
use Rattle.relation_law.proofs.FramesClient.{where_all}

abbrev Own_all : List Event → Type 0
Own_all = AreAll IsOfDrive

-- ---- what a drive performs

performs : (o : Option MachineWrite) → Own_all (table.performs o)
performs None = tt
performs (Some m) = (tt, tt)

of_client : (s : State) (w : World) (file k c : ℕ) (x : Command) (a : Action) → Own_all (table.of_client s w file k c x a)
of_client s w file k c x Read =
    where_all IsOfDrive (table.is_running file x.nonce (client_of w c).call) _ (tt, tt)
of_client s w file k c x Write = performs (find (table.is_write c k x.nonce) s.writes)
of_client s w file k c x a = tt

of_server : (e : ℕ → ℕ) (k : ℕ) (x : Command) (a : Action) → Own_all (table.of_server e k x a)
of_server e k x SetTag = (tt, tt)
of_server e k x Write = (tt, tt)
of_server e k x a = tt

performed_of : (s : State) (w : World) (e : ℕ → ℕ) (file k : ℕ) (x : Command) (from : Node)
    → Own_all (table.performed_of s w e file k x from)
performed_of s w e file k x (node.Client c) = of_client s w file k c x x.action
performed_of s w e file k x node.Server = of_server e k x x.action
performed_of s w e file k x (node.Drive d) = tt

performed_on : (s : State) (w : World) (e : ℕ → ℕ) (f : File) (x : Command) (from : Node) (o : Option ℕ)
    → Own_all (table.performed_on s w e f x from o)
performed_on s w e f x from None = tt
performed_on s w e f x from (Some k) =
    where_all IsOfDrive (not (s.lost k)) _ (performed_of s w e f.kept.number k x from)

-- ---- what a drive judges

judged : (s : State) (w : World) (e : ℕ → ℕ) (f : File) (d : ℕ) (a : DriveAt) (from : Node) (r : Result Command CommandErr)
    → Own_all (table.judged s w e f d a from r)
judged s w e f d a from (Err cause) = tt
judged s w e f d a from (Ok x) =
    where_all IsOfDrive (table.is_performed (verdict_on a.state a.clock (Ok x))) _
    (performed_on s w e f x from (component_at d x.object f.kept.components 0))

heard : (s : State) (w : World) (e : ℕ → ℕ) (f : File) (d : ℕ) (m : Message) (o : Option DriveAt)
    → Own_all (table.heard s w e f d m o)
heard s w e f d m None = tt
heard s w e f d m (Some a) = where_all IsOfDrive (not (is_deaf a)) _ (judged s w e f d a m.from (command_in m.body))

heard_at : (s : State) (w : World) (e : ℕ → ℕ) (f : File) (m : Message) (to : Node) → Own_all (table.heard_at s w e f m to)
heard_at s w e f m (node.Drive d) = heard s w e f d m (at_number w.drives d)
heard_at s w e f m (node.Client c) = tt
heard_at s w e f m node.Server = tt

delivered : (s : State) (w : World) (e : ℕ → ℕ) (f : File) (o : Option Posted) → Own_all (table.delivered s w e f o)
delivered s w e f None = tt
delivered s w e f (Some p) = heard_at s w e f p.message p.message.to

fails : (d : ℕ) (cs : List Component) (k : ℕ) → Own_all (table.fails_from d cs k)
unfolding table.fails_from
fails d [] k = tt
fails d (at ∷ cs) k =
    all_more IsOfDrive _ (table.fails_from d cs (k + 1)) (where_all IsOfDrive (at.drive == d) _ (tt, tt))
    (fails d cs (k + 1))

opened : (s : State) (w : World) (e : ℕ → ℕ) (f : File) (x : Told) → Own_all (table.opened s w e f x)
opened s w e f (scenario.Deliver number) = delivered s w e f (slice_get w.network.messages number)
opened s w e f (scenario.Inject d bytes) = delivered s w e f (find (table.is_sent_as d bytes) w.network.messages)
opened s w e f (scenario.Fail d) = fails d f.kept.components 0
opened s w e f x = tt

-- All events of a drive in a move are of a drive.
pub drive_lines : (s : State) (w : World) (e : ℕ → ℕ) (f : File) (a : moves.Action)
    → LinesAre IsOfDrive (table.drive_events s w e f a)
drive_lines s w e f (moves.Opens x) = (opened s w e f x, tt)
drive_lines s w e f (moves.Delivers number) = (delivered s w e f (slice_get w.network.messages number), tt)
drive_lines s w e f (moves.TimesOut c k) = tt
drive_lines s w e f (moves.Pends c) = tt
