-- What the machine of a file has of drives' replies to the WRITEs that clients await.
use Rattle.std.specs.Prelude.{◌≡◌, ◌⊎◌, ℕ, ◌<◌, false, true, List, Some, Ok}
use Rattle.osd_lists.specs.declared.node.Node.TheVariants as node
use Rattle.osd_commands.specs.declared.actions.Action.TheVariants.{Write}
use Rattle.osd_commands.specs.declared.commands.Command.{Command}
use Rattle.osd_drive.specs.declared.verdict.Verdict.{Verdict}
use Rattle.osd_drive.specs.declared.verdict.Verdict.TheVariants as verdict
use Rattle.osd_drive.specs.Table.{first_fault}
use Rattle.scenario_text.specs.declared.line.Line.{Line}
use Rattle.scenario_text.specs.declared.names.TheConstants.{CLIENTS}
use Rattle.server_rules.specs.Files.{file_at}
use Rattle.server_rules.specs.Laws.{In}
use Rattle.client_rules.specs.Calls.{file_of}
use Rattle.world_history.specs.ClientNames.{Awaited, Call}
use Rattle.world_history.specs.ServerNames.{File}
use Rattle.world_history.specs.declared.messages.Message.{Message}
use Rattle.world_history.specs.Drives.{command_in, is_deaf}
use Rattle.world_history.specs.Guesses.{unguessed}
use Rattle.world_history.specs.State.{World, DriveAt, at_number}
use Rattle.world_history.specs.Stripes.{component_at}
use Rattle.history_law.specs.Moments.{IsMoment}
use Rattle.exchange_law.specs.Doing.{said}
use Rattle.fence_law.specs.State.{State}
use Rattle.file_simulation.specs.Claim.{IsOfScenario}
use Rattle.file_simulation.specs.Relation.{client_of}
use Rattle.relation_law.specs.ReadsDrive.{IsAwaitedBy}
use Rattle.file_simulation.specs.Messages.{ToldIn}
use Rattle.relation_law.specs.Steps.{GoesOn}

-- the machine has the replies to the WRITEs that clients' calls on the file await
abbrev pub AreTold : State → World → File → Type 0
AreTold s w f =
    (c : ℕ) → c < CLIENTS → (call : Call) → (client_of w c).call ≡ Some call → file_of call.op ≡ f.kept.number →
    ToldIn s w c call.phase

-- so it is behind each whole move
abbrev pub ToldFollows : Type 0
ToldFollows = GoesOn AreTold

-- ---- what drives say

-- a command is performed: now, or it was before
abbrev pub IsDone : Verdict → Type 0
IsDone v = (v ≡ verdict.Perform) ⊎ (v ≡ verdict.Again)

-- drive d, which hears, reads command x in a message of client c, and says that it is performed
pub record SaysDone (w : World) (c d : ℕ) (x : Command) : Type 0 where
  pub message : Message
  pub sent : In message (said w.network.messages)
  pub from : message.from ≡ node.Client c
  pub to : message.to ≡ node.Drive d
  pub reads : command_in message.body ≡ Ok x
  pub drive : DriveAt
  pub there : at_number w.drives d ≡ Some drive
  pub hears : is_deaf drive ≡ false
  pub done : IsDone (first_fault drive.state drive.clock x)

-- Where a client's call on the file awaits a WRITE of which its drive says so, it goes to the component that is asked, which is
-- there and isn't missing.
abbrev pub AwaitedWritesAreFound : Type 0
AwaitedWritesAreFound =
    (w : World) (h : List Line) → IsMoment w h → IsOfScenario h → unguessed h ≡ true → (f : File) →
    file_at w.server.files f.kept.number ≡ Some f → (c : ℕ) (a : Awaited) (x : Command) → IsAwaitedBy w f c a →
    a.command.action ≡ Write → a.command.nonce ≡ x.nonce → SaysDone w c a.drive x →
    component_at a.drive x.object f.kept.components 0 ≡ Some a.ask.component
