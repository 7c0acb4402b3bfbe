-- When a drive carries out a READ or a WRITE of a client, and how the room for what is written stays.
use Rattle.std.specs.Prelude.{◌≡◌, ◌⊎◌, ◌≤◌, ◌+◌, ◌-◌, ℕ, true, false, length, Some, Ok}
use Rattle.osd_commands.specs.declared.actions.Action.{Action}
use Rattle.osd_commands.specs.declared.actions.Action.TheVariants.{Read, Write}
use Rattle.osd_commands.specs.declared.commands.Command.{Command}
use Rattle.osd_objects.specs.declared.object.StoredObject.{StoredObject}
use Rattle.osd_objects.specs.Objects.{length_of}
use Rattle.osd_objects.specs.Store.{StoreState, object_at, bytes_at, free_of}
use Rattle.osd_drive.specs.declared.keys.DriveKey.{DriveKey}
use Rattle.osd_drive.specs.declared.limits.TheConstants.{MAX_LENGTH, MAX_END}
use Rattle.osd_drive.specs.declared.verdict.Verdict.{Verdict}
use Rattle.osd_drive.specs.declared.verdict.Verdict.TheVariants.{Perform, Again}
use Rattle.osd_drive.specs.State.{DriveState, key_of_version}
use Rattle.osd_drive.specs.Table.{is_checked, first_fault}
use Rattle.osd_drive.specs.Effects.{reply_by, state_by}
use Rattle.world_history.specs.Drives.{verdict_on}
use Rattle.exchange_law.specs.LaneTaken.{is_of_lanes}
use Rattle.exchange_law.specs.Placed.{IsPlaced}

-- a READ or a WRITE
abbrev pub ReadsOrWrites : Action → Type 0
ReadsOrWrites a = (a ≡ Read) ⊎ (a ≡ Write)

-- No row of a drive's table of verdicts applies to a READ or a WRITE, but perhaps that of a repeat. Behind each fact stand the
-- rows that it excludes. Of the rows on lanes only the verdict is known: `taken`.
pub record IsClear (d : DriveState) (now : ℕ) (c : Command) : Type 0 where
  pub placed : IsPlaced d.number c  -- Rights, WrongObject, Range; Exists, AttrFull, most of Limit
  pub format : d.least ≤ c.capability.format  -- OldFormat
  pub key : DriveKey
  pub known : key_of_version d.keys c.capability.key_version ≡ Some key  -- NoKey
  pub checked : is_checked key.key c ≡ true  -- CheckValue
  pub in_time : now ≤ c.capability.expiry  -- Expired
  pub object : StoredObject
  pub there : object_at d.store c.object ≡ Some object  -- NoObject
  pub tag : c.capability.tag ≡ object.tag  -- Tag
  pub short : c.length ≤ MAX_LENGTH  -- Limit
  pub low : c.offset + c.length ≤ MAX_END  -- Limit
  pub room : c.action ≡ Write → (c.offset + c.length) - length_of object ≤ free_of d.store  -- NoSpace
  pub taken : is_of_lanes (verdict_on d now (Ok c)) ≡ false  -- LaneFull, Stale

-- The drive performs the command, or did so before, and its reply says so to this command.
pub record IsCarriedOut (d : DriveState) (now : ℕ) (c : Command) : Type 0 where
  pub verdict : (first_fault d now c ≡ Perform) ⊎ (first_fault d now c ≡ Again)
  pub told : (reply_by (first_fault d now c) d c).verdict ≡ 0
  pub nonce : (reply_by (first_fault d now c) d c).nonce ≡ c.nonce

-- so it is of each such command
abbrev pub ClearCommandsAreCarriedOut : Type 0
ClearCommandsAreCarriedOut = (d : DriveState) (now : ℕ) (c : Command) → IsClear d now c → IsCarriedOut d now c

-- ---- room

-- the store has room for an object to become this long
abbrev pub HasRoomTo : (top : ℕ) → StoreState → (object : ℕ) → Type 0
HasRoomTo top s object = top - length (bytes_at s object) ≤ free_of s

-- Whatever the verdict on a READ, or on a WRITE that ends there at most, the room for that stays.
abbrev pub RoomStays : Type 0
RoomStays =
    (d : DriveState) (v : Verdict) (c : Command) (top : ℕ) → ReadsOrWrites c.action
    → (c.action ≡ Write → c.offset + length c.payload ≤ top)
    → HasRoomTo top d.store c.object → HasRoomTo top (state_by v d c).store c.object
