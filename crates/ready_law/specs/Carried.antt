-- What a call awaits of a drive is carried out there, and the client hears so.
use Rattle.std.specs.Prelude.{◌≡◌, ◌≤◌, ◌+◌, ℕ, false, List, slice_get, Some, None, Ok}
use Rattle.osd_lists.specs.declared.node.Node.TheVariants as node
use Rattle.osd_commands.specs.declared.actions.Action.TheVariants.{Write}
use Rattle.osd_commands.specs.Commands.{spelling, reading}
use Rattle.server_rules.specs.Files.{file_at}
use Rattle.server_rules.specs.Grants.{grant_of}
use Rattle.server_rules.specs.Laws.{In}
use Rattle.client_rules.specs.declared.limits.TheConstants.{PERFORMED}
use Rattle.client_rules.specs.Calls.{file_of}
use Rattle.client_rules.specs.Grants.{held_of}
use Rattle.client_rules.specs.Io.{awaited_in}
use Rattle.client_rules.specs.Messages.{Replies}
use Rattle.scenario_text.specs.declared.line.Line.{Line}
use Rattle.world_history.specs.ClientNames.{Awaited, Call, Held, Reply}
use Rattle.world_history.specs.ServerNames.{File, Component, Grant}
use Rattle.world_history.specs.declared.messages.Body.TheVariants.{Reply as OfReply}
use Rattle.world_history.specs.declared.messages.Message.{Message}
use Rattle.world_history.specs.State.{World, DriveAt, ClientAt, at_number}
use Rattle.world_history.specs.Drives.{judges}
use Rattle.world_history.specs.Handed.{for_client}
use Rattle.ready_law.specs.Clear.{IsClear, HasRoomTo}
use Rattle.ready_law.specs.Fair.{IsFair}

-- The call of the client awaits this of a drive, under the grant that the client holds on the call's file. The server has a
-- grant of the client there, and no job runs on the file.
pub record WorksUnder (w : World) (client : ℕ) (x : Awaited) : Type 0 where
  pub caller : ClientAt
  pub there : at_number w.clients client ≡ Some caller
  pub call : Call
  pub pending : caller.state.call ≡ Some call
  pub awaits : In x (awaited_in call.phase)
  pub held : Held
  pub holds : held_of caller.state.held (file_of call.op) ≡ Some held
  pub file : File
  pub found : file_at w.server.files (file_of call.op) ≡ Some file
  pub quiet : file.job ≡ None
  pub grant : Grant
  pub granted : grant_of file.kept.grants client ≡ Some grant

-- The drive of the component that it asks hasn't failed; its clock isn't past the grant, it takes the file's format, and has room
-- for what is written.
pub record CanServe {w : World} {client : ℕ} {x : Awaited} (u : WorksUnder w client x) : Type 0 where
  pub at : Component
  pub place : slice_get u.file.kept.components x.ask.component ≡ Some at
  pub drive : DriveAt
  pub stands : at_number w.drives at.drive ≡ Some drive
  pub works : drive.failed ≡ false
  pub in_time : drive.clock ≤ u.grant.expiry
  pub format : drive.state.least ≤ u.file.kept.format
  pub room : x.command.action ≡ Write → HasRoomTo (x.command.offset + x.command.length) drive.state.store at.object

-- Then it is for that drive, the drive reads the very command, and no row of its verdicts applies but perhaps that of a repeat.
pub record IsServedBy {w : World} {client : ℕ} {x : Awaited} {u : WorksUnder w client x} (d : CanServe u) : Type 0 where
  pub drive_is : x.drive ≡ d.at.drive
  pub read : reading (spelling x.command) ≡ Ok x.command
  pub clear : IsClear d.drive.state d.drive.clock x.command

-- The drive's reply to it.
abbrev pub reply_message : DriveAt → (client : ℕ) → Awaited → Message
reply_message a client x = record {
  from = node.Drive x.drive;
  to = node.Client client;
  body = OfReply (judges a (reading (spelling x.command))).reply;
}

-- The client reads in a message that the command with this nonce was carried out.
pub record TellsDone (m : Message) (nonce : ℕ) : Type 0 where
  pub reply : Reply
  pub read : for_client m ≡ Some (Replies reply)
  pub done : reply.verdict ≡ PERFORMED
  pub its : reply.nonce ≡ nonce

-- so it is at each such moment, while the server is up
abbrev pub AwaitedAreServed : Type 0
AwaitedAreServed =
    (w : World) (h : List Line) → IsFair w h → w.down ≡ false → (client : ℕ) (x : Awaited) (u : WorksUnder w client x)
    → (d : CanServe u) → IsServedBy d

-- and of the reply
abbrev pub RepliesAreRead : Type 0
RepliesAreRead =
    (w : World) (h : List Line) → IsFair w h → w.down ≡ false → (client : ℕ) (x : Awaited) (u : WorksUnder w client x)
    → (d : CanServe u) → TellsDone (reply_message d.drive client x) x.command.nonce
