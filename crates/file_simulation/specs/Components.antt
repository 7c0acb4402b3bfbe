-- The components of a file: what is lost, and the objects of those that stand.
use Rattle.std.specs.Prelude.{◌≡◌, ◌⊎◌, ℕ, ◌+◌, ◌<◌, ◌≤◌, ◌||◌, Bool, false, [], get_or, slice_get, Option, Some, None}
use Rattle.osd_objects.specs.declared.object.StoredObject.{StoredObject}
use Rattle.osd_objects.specs.declared.lanes.LaneEntry.{LaneEntry}
use Rattle.osd_objects.specs.Store.{object_at, lane_or_none}
use Rattle.osd_commands.specs.declared.actions.Action.TheVariants.{Write}
use Rattle.osd_commands.specs.declared.commands.Command.{Command}
use Rattle.scenario_text.specs.declared.names.TheConstants.{CLIENTS}
use Rattle.server_rules.specs.Messages.{awaited_by}
use Rattle.world_history.specs.ServerNames.{File, Component}
use Rattle.world_history.specs.State.{World, DriveAt, at_number}
use Rattle.exchange_law.specs.Sent.{HasSent}
use Rattle.component_law.specs.Standing.{IsCreating}
use Rattle.fence_law.specs.State.{State}
use Rattle.fence_law.specs.Words.{In as InRun}

-- ---- drives

-- the object that a drive has under this number
abbrev pub object_on : Option DriveAt → (object : ℕ) → Option StoredObject
object_on None object = None
object_on (Some a) object = object_at a.state.store object

-- the drive has failed
abbrev pub has_failed : Option DriveAt → Bool
has_failed None = false
has_failed (Some a) = a.failed

-- the component is lost: it is missing, or its drive has failed
abbrev pub is_lost_in : World → Component → Bool
is_lost_in w at = at.missing || has_failed (at_number w.drives at.drive)

-- the object of a component
abbrev pub object_of : World → Component → Option StoredObject
object_of w at = object_on (at_number w.drives at.drive) at.object

-- ---- an object

-- The object is there: the machine has its tag and its bytes, 0 behind its length.
pub record IsMade (s : State) (k : ℕ) (o : StoredObject) : Type 0 where
  pub tag : s.object_tag k ≡ o.tag
  pub cells : (z : ℕ) → s.cell k z ≡ get_or o.content.bytes z 0

-- The object isn't there yet: its file isn't ready and was never granted, and its CREATE is awaited, or no job runs, as after
-- a stop of the server.
pub record IsUnmade (s : State) (f : File) (k : ℕ) (at : Component) : Type 0 where
  pub tag : s.object_tag k ≡ f.kept.first_tag
  pub cells : (z : ℕ) → s.cell k z ≡ 0
  pub unready : f.kept.ready ≡ false
  pub unused : s.granted_since ≡ false
  pub ungranted : f.kept.grants ≡ []
  pub due : IsCreating (awaited_by f.job) at.drive at.object f.kept.tag ⊎ (f.job ≡ None)

-- the object is there, or isn't there yet
abbrev pub ObjectIs : State → File → (k : ℕ) → Component → Option StoredObject → Type 0
ObjectIs s f k at None = IsUnmade s f k at
ObjectIs s f k at (Some o) = IsMade s k o

-- ---- a lane

-- The last nonce of client c that component k performed is that of the client's lane at its object; without a lane it is
-- below that of each WRITE that the client ever sent for the object.
abbrev pub LaneIs : World → State → (k c object : ℕ) → Option LaneEntry → Type 0
LaneIs w s k c object (Some l) = s.last_nonce k c ≡ l.nonce
LaneIs w s k c object None =
    (d : ℕ) (x : Command) → HasSent w c d x → x.action ≡ Write → x.object ≡ object → s.last_nonce k c < x.nonce

-- ---- a component

-- what the machine has of component k that stands
pub record StandsAs (s : State) (w : World) (f : File) (k : ℕ) (at : Component) : Type 0 where
  pub object : ObjectIs s f k at (object_of w at)
  pub lane : (c : ℕ) → c < CLIENTS → LaneIs w s k c at.object (lane_or_none (object_of w at) c)
  -- an object with the next tag has told it
  pub raised : s.object_tag k ≡ f.kept.tag + 1 → InRun (k, f.kept.tag + 1) s.tag_replies

-- what the machine has of component k, lost or not
pub record IsComponent (s : State) (w : World) (f : File) (k : ℕ) (at : Component) : Type 0 where
  pub missing : s.missing k ≡ at.missing
  pub lost : s.lost k ≡ is_lost_in w at
  pub stands : s.lost k ≡ false → StandsAs s w f k at
  pub nonces : (c : ℕ) → c < CLIENTS → s.last_nonce k c ≤ s.nonce c

-- so it is of each component of the file
abbrev pub AreComponents : State → World → File → Type 0
AreComponents s w f = (k : ℕ) (at : Component) → slice_get f.kept.components k ≡ Some at → IsComponent s w f k at
