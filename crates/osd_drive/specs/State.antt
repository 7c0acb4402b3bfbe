-- The state of a drive, and what of it a command is judged by.
use Rattle.std.specs.Prelude.{ℕ, List, length, position, slice_get, Option, Some, None, is_some, nat_eq}
use Rattle.std.specs.Option.{option_map}
use Rattle.osd_commands.specs.declared.commands.Command.{Command}
use Rattle.osd_objects.specs.Objects.{state_of}
use Rattle.osd_objects.specs.Store.{StoreState, empty_store, object_at, free_of, lane_or_none, attribute_at}
use Rattle.osd_drive.specs.declared.keys.DriveKey.{DriveKey}
use Rattle.osd_drive.specs.declared.limits.TheConstants.{FIRST_FORMAT}
use Rattle.osd_drive.specs.declared.store_view.StoreView.{StoreView}

-- a number, a key table, the least format of capabilities, and objects by number that share a capacity
pub record DriveState : Type 0 where
  pub number : ℕ
  pub keys : List DriveKey
  pub least : ℕ
  pub store : StoreState

abbrev pub new_drive : ℕ → List DriveKey → ℕ → DriveState
new_drive number keys capacity = record {
  number = number;
  keys = keys;
  least = FIRST_FORMAT;
  store = empty_store capacity;
}

abbrev pub key_at_place : List DriveKey → Option ℕ → Option DriveKey
key_at_place keys (Some i) = slice_get keys i
key_at_place keys None = None

-- the key of a version, the first where a table has it twice
abbrev pub key_of_version : List DriveKey → ℕ → Option DriveKey
key_of_version keys version = key_at_place keys (position (λ k. nat_eq k.version version) keys)

-- what the objects have on a command: its object, the lane of its holder there, whether its attribute is
-- there, the free capacity and the number of objects
abbrev pub view_of : StoreState → Command → StoreView
view_of s c = record {
  object = option_map state_of (object_at s c.object);
  lane = lane_or_none (object_at s c.object) c.capability.holder;
  has_attribute = is_some (attribute_at s c.object c.attribute);
  free = free_of s;
  objects = length s.objects;
}
