-- Where the tags of objects come from, where nothing is forged.
use Rattle.std.specs.Prelude.{◌≡◌, ◌⊎◌, ℕ, ◌+◌, List, slice_get, Some, Ok}
use Rattle.osd_commands.specs.declared.actions.Action.TheVariants.{Create, SetTag}
use Rattle.osd_commands.specs.declared.commands.Command.{Command}
use Rattle.osd_commands.specs.Commands.{reading}
use Rattle.osd_objects.specs.declared.object.StoredObject.{StoredObject}
use Rattle.osd_objects.specs.Store.{object_at}
use Rattle.scenario_text.specs.declared.line.Party.TheVariants.{Server, Drive}
use Rattle.scenario_text.specs.declared.line.Line.{Line}
use Rattle.world_history.specs.declared.messages.Sent.{Sent}
use Rattle.world_history.specs.State.{DriveAt}
use Rattle.world_history.specs.Reading.{sent_in}
use Rattle.world_history.specs.ReadDrives.{drive_after}
use Rattle.world_history.specs.History.{Lawful}
use Rattle.history_law.specs.Unforged.{AreUnforged}

-- the tag that a CREATE gives its object, or a SET TAG
abbrev pub GivesTag : Command → (tag : ℕ) → Type 0
GivesTag c tag = ((c.action ≡ Create) × (tag ≡ c.capability.tag)) ⊎ ((c.action ≡ SetTag) × (tag ≡ c.capability.tag + 1))

-- the server sent the drive a command that gives this object this tag
pub record WasGivenTag (h : List Line) (drive object tag : ℕ) : Type 0 where
  pub number : ℕ
  pub message : Sent
  pub there : slice_get (sent_in h) number ≡ Some message
  pub sender : message.from ≡ Server
  pub receiver : message.to ≡ Drive drive
  pub command : Command
  pub read : reading message.bytes ≡ Ok command
  pub object_is : command.object ≡ object
  pub gives : GivesTag command tag

-- so it is of each object of each drive, at each moment of a history in which nothing is forged
abbrev pub EachTagWasSent : Type 0
EachTagWasSent =
    (h : List Line) → Lawful h → AreUnforged h → (drive : ℕ) (a : DriveAt) → drive_after h drive ≡ Some a →
    (object : ℕ) (x : StoredObject) → object_at a.state.store object ≡ Some x → WasGivenTag h drive object x.tag
