-- Whose lanes the objects of drives have, where nothing is forged.
use Rattle.std.specs.Prelude.{◌≡◌, ◌⊎◌, ℕ, ◌+◌, ◌≤◌, ◌<◌, false, true, List, length, Some}
use Rattle.osd_commands.specs.declared.commands.Command.{Command}
use Rattle.osd_drive.specs.Table.{is_mutating, has_no_right}
use Rattle.osd_objects.specs.declared.lanes.LaneEntry.{LaneEntry}
use Rattle.osd_objects.specs.declared.object.StoredObject.{StoredObject}
use Rattle.osd_objects.specs.Store.{object_at}
use Rattle.server_rules.specs.Laws.{In}
use Rattle.scenario_text.specs.declared.names.TheConstants.{CLIENTS}
use Rattle.scenario_text.specs.declared.line.Line.{Line}
use Rattle.world_history.specs.State.{DriveAt}
use Rattle.world_history.specs.ReadDrives.{drive_after}
use Rattle.world_history.specs.History.{Lawful}
use Rattle.history_law.specs.Unforged.{IsListed, AreUnforged}
use Rattle.exchange_law.specs.Lanes.{HoldersDiffer, IsOwn}

-- a command with the right to change the object carries what was given to the client; the lane has its holder and nonce
pub record IsUnderGiven (h : List Line) (client object : ℕ) (l : LaneEntry) : Type 0 where
  pub command : Command
  pub given : IsListed h client command
  pub changes : is_mutating command.action ≡ true
  pub allowed : has_no_right command ≡ false
  pub object_is : command.object ≡ object
  pub holder_is : command.capability.holder ≡ l.holder
  pub nonce_is : command.nonce ≡ l.nonce

-- a lane is of a command that its holder sent, or of one that carries what was given to the client that the lane names
abbrev pub IsFairLane : List Line → (drive object : ℕ) → LaneEntry → Type 0
IsFairLane h drive object l = IsOwn h drive object l ⊎ ((l.holder < CLIENTS) × IsUnderGiven h l.holder object l)

-- so is each of an object, no two have one holder, and so there are no more than one for each client and the server
pub record AreFairLanes (h : List Line) (drive object : ℕ) (ls : List LaneEntry) : Type 0 where
  pub own : (l : LaneEntry) → In l ls → IsFairLane h drive object l
  pub differ : HoldersDiffer ls
  pub few : length ls ≤ CLIENTS + 1

-- at each moment of a history in which nothing is forged, of each object of each drive
abbrev pub LanesAreFair : Type 0
LanesAreFair =
    (h : List Line) → Lawful h → AreUnforged h → (drive : ℕ) (a : DriveAt) → drive_after h drive ≡ Some a →
    (object : ℕ) (x : StoredObject) → object_at a.state.store object ≡ Some x → AreFairLanes h drive object x.lanes
