-- A drive's reply to a command that a client's call awaits.
use Rattle.std.specs.Prelude.{◌≡◌, ℕ, ◌<◌, false, slice_get, Some, Ok}
use Rattle.osd_lists.specs.declared.node.Node.TheVariants as node
use Rattle.osd_commands.specs.declared.actions.Action.TheVariants as action
use Rattle.osd_commands.specs.declared.commands.Command.{Command}
use Rattle.server_rules.specs.Laws.{In}
use Rattle.client_rules.specs.Calls.{file_of}
use Rattle.client_rules.specs.Io.{awaited_in}
use Rattle.world_history.specs.ClientNames.{Call, Awaited}
use Rattle.world_history.specs.ServerNames.{File, Component}
use Rattle.world_history.specs.declared.messages.Message.{Message}
use Rattle.world_history.specs.Drives.{command_in}
use Rattle.world_history.specs.State.{World, DriveAt}
use Rattle.world_history.specs.Stripes.{component_at}
use Rattle.exchange_law.specs.Doing.{said}
use Rattle.fence_law.specs.State.{State}
use Rattle.fence_law.specs.State.Call.{Reads as AtRead}
use Rattle.file_simulation.specs.Relation.{client_of}
use Rattle.relation_law.specs.DriveHearing.{IsPerformed, AwaitsOwn}

-- a client's call on the file awaits this command of a component: READ or WRITE of the bytes that its ask names
pub record IsAwaitedBy (w : World) (f : File) (c : ℕ) (a : Awaited) : Type 0 where
  pub call : Call
  pub is : (client_of w c).call ≡ Some call
  pub here : file_of call.op ≡ f.kept.number
  pub awaits : In a (awaited_in call.phase)

-- the bytes of a READ are those that its ask names
pub record IsReadOf (a : Awaited) : Type 0 where
  pub action_is : a.command.action ≡ action.Read
  pub offset : a.command.offset ≡ a.ask.offset
  pub length : a.command.length ≡ a.ask.length

-- The command goes to the component of its ask: it is there in the file, isn't lost, and stands at the ask's position.
pub record StandsThere (s : State) (f : File) (a : Awaited) : Type 0 where
  pub component : Component
  pub there : slice_get f.kept.components a.ask.component ≡ Some component
  pub drive : component.drive ≡ a.drive
  pub object : component.object ≡ a.command.object
  pub found : component_at a.drive a.command.object f.kept.components 0 ≡ Some a.ask.component
  pub stands : s.lost a.ask.component ≡ false
  pub inside : a.ask.component < s.layout.components
  pub position : s.layout.position a.ask.component ≡ a.ask.position

-- What is known of the commands that clients' calls on the file await, where drives may reply to them: calls that read await
-- READs; what a client awaits under a nonce is the command that it sent under it; and what a drive performs goes to the
-- component of its ask.
pub record AwaitWell (s : State) (w : World) (f : File) : Type 0 where
  pub reads : (c j : ℕ) (a : Awaited) → IsAwaitedBy w f c a → s.call c ≡ AtRead j → IsReadOf a
  pub own : (m : Message) (c d : ℕ) (x : Command) → In m (said w.network.messages) → m.from ≡ node.Client c →
      m.to ≡ node.Drive d → command_in m.body ≡ Ok x → AwaitsOwn w c x
  pub stands : (c d : ℕ) (at : DriveAt) (a : Awaited) → IsAwaitedBy w f c a → a.drive ≡ d → IsPerformed w d at a.command →
      StandsThere s f a
