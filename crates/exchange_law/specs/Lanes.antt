-- Whose lanes the objects of drives have, where nothing was guessed.
use Rattle.std.specs.Prelude.{◌≡◌, ◌⊎◌, ℕ, ◌+◌, ◌≤◌, ◌<◌, false, true, List, [], ◌∷◌, length, slice_get, Some, Ok}
use Rattle.osd_commands.specs.declared.commands.Command.{Command}
use Rattle.osd_commands.specs.Commands.{reading}
use Rattle.osd_drive.specs.Table.{is_mutating, has_no_right}
use Rattle.osd_objects.specs.declared.lanes.LaneEntry.{LaneEntry}
use Rattle.osd_objects.specs.declared.object.StoredObject.{StoredObject}
use Rattle.osd_objects.specs.Store.{object_at}
use Rattle.server_rules.specs.declared.limits.TheConstants.{SERVER_HOLDER}
use Rattle.server_rules.specs.Laws.{In}
use Rattle.scenario_text.specs.declared.names.TheConstants.{CLIENTS}
use Rattle.scenario_text.specs.declared.line.Party.{Party}
use Rattle.scenario_text.specs.declared.line.Party.TheVariants as party
use Rattle.scenario_text.specs.declared.line.Line.{Line}
use Rattle.world_history.specs.declared.messages.Sent.{Sent}
use Rattle.world_history.specs.State.{DriveAt}
use Rattle.world_history.specs.Reading.{sent_in}
use Rattle.world_history.specs.ReadDrives.{drive_after}
use Rattle.world_history.specs.Guesses.{unguessed}
use Rattle.world_history.specs.History.{Lawful}

-- no two lanes have one holder
abbrev pub NoneHolds : (holder : ℕ) → List LaneEntry → Type 0
NoneHolds holder [] = Unit {0}
NoneHolds holder (l ∷ ls) = (l.holder ≡ holder → ⊥) × NoneHolds holder ls

abbrev pub HoldersDiffer : List LaneEntry → Type 0
HoldersDiffer [] = Unit {0}
HoldersDiffer (l ∷ ls) = NoneHolds l.holder ls × HoldersDiffer ls

-- the party sent the drive a command that changes the object, with the right to do so; the lane has its holder and nonce
pub record IsFrom (h : List Line) (from : Party) (drive object : ℕ) (l : LaneEntry) : Type 0 where
  pub number : ℕ
  pub message : Sent
  pub there : slice_get (sent_in h) number ≡ Some message
  pub sender : message.from ≡ from
  pub receiver : message.to ≡ party.Drive drive
  pub command : Command
  pub read : reading message.bytes ≡ Ok command
  pub changes : is_mutating command.action ≡ true
  pub allowed : has_no_right command ≡ false
  pub object_is : command.object ≡ object
  pub holder_is : command.capability.holder ≡ l.holder
  pub nonce_is : command.nonce ≡ l.nonce

-- a lane is the server's, under its own holder, or a client's, under its number, and the line names that
abbrev pub IsOwn : List Line → (drive object : ℕ) → LaneEntry → Type 0
IsOwn h drive object l =
    ((l.holder ≡ SERVER_HOLDER) × IsFrom h party.Server drive object l)
    ⊎ ((l.holder < CLIENTS) × IsFrom h (party.Client l.holder) drive object l)

-- so is each of an object, no two have one holder, and so there are no more than one for each client and the server
pub record AreLanes (h : List Line) (drive object : ℕ) (ls : List LaneEntry) : Type 0 where
  pub own : (l : LaneEntry) → In l ls → IsOwn h drive object l
  pub differ : HoldersDiffer ls
  pub few : length ls ≤ CLIENTS + 1

-- at each moment of a history in which nothing was guessed, of each object of each drive
abbrev pub LanesAreOwn : Type 0
LanesAreOwn =
    (h : List Line) → Lawful h → unguessed h ≡ true → (drive : ℕ) (a : DriveAt) → drive_after h drive ≡ Some a →
    (object : ℕ) (x : StoredObject) → object_at a.state.store object ≡ Some x → AreLanes h drive object x.lanes
