-- What a drive keeps over each move of a world: its least format, and the tags and lanes of its objects, only rise.
use Rattle.std.specs.Prelude.{◌≡◌, ℕ, ◌≤◌, true, false, List, Option, Some, None}
use Rattle.osd_commands.specs.declared.commands.Command.{Command}
use Rattle.osd_objects.specs.declared.object.StoredObject.{StoredObject}
use Rattle.osd_objects.specs.Lanes.{lane_of}
use Rattle.osd_objects.specs.Store.{object_at}
use Rattle.scenario_text.specs.declared.line.Line.{Line}
use Rattle.world_history.specs.State.{World, DriveAt, at_number}
use Rattle.world_history.specs.Sending.{Move, move}
use Rattle.world_history.specs.Plans.{due}
use Rattle.history_law.specs.BookMoments.{IsMoment, plan_at}
use Rattle.history_law.specs.Spent.{HasPassed, IsSpent}

-- ---- an object

-- its tag doesn't fall, and what a lane has passed it has passed
pub record IsGrown (x y : StoredObject) : Type 0 where
  pub tag : x.tag ≤ y.tag
  pub lanes : (holder nonce : ℕ) → HasPassed (lane_of x.lanes holder) nonce → HasPassed (lane_of y.lanes holder) nonce

-- one that is there stays there
abbrev pub ObjectGrows : Option StoredObject → Option StoredObject → Type 0
ObjectGrows None o = Unit {0}
ObjectGrows (Some x) None = ⊥
ObjectGrows (Some x) (Some y) = IsGrown x y

-- ---- a drive

-- one that failed has failed; its least format doesn't fall; and unless it fails each object goes on so
pub record DriveGrows (a b : DriveAt) : Type 0 where
  pub failed : a.failed ≡ true → b.failed ≡ true
  pub least : a.state.least ≤ b.state.least
  pub objects : b.failed ≡ false → (object : ℕ) →
      ObjectGrows (object_at a.state.store object) (object_at b.state.store object)

-- one that is there stays there
abbrev pub Grows : Option DriveAt → Option DriveAt → Type 0
Grows None o = Unit {0}
Grows (Some a) None = ⊥
Grows (Some a) (Some b) = DriveGrows a b

-- ---- moves

-- so it is of each drive in each move
abbrev pub DrivesGrow : Type 0
DrivesGrow =
    (w : World) (h : List Line) (k : IsMoment w h) (m : Move) → due (plan_at k) w ≡ Some m.action → (drive : ℕ) →
    Grows (at_number w.drives drive) (at_number (move w m).world.drives drive)

-- so a command that is spent stays so
abbrev pub SpentStays : Type 0
SpentStays =
    (w : World) (h : List Line) (k : IsMoment w h) (m : Move) → due (plan_at k) w ≡ Some m.action → (drive : ℕ)
    (c : Command) → IsSpent (at_number w.drives drive) c → IsSpent (at_number (move w m).world.drives drive) c
