-- What a drive does that serves from the store on a disk, and what stays there.
use Rattle.std.specs.Prelude.{◌≡◌, ◌⊎◌, ◌≤◌, ℕ, List, [], length, IsTrue, Option}
use Rattle.osd_disk.specs.Crashes.{LeavesOnly, Only}
use Rattle.osd_disk.specs.declared.disk.Disk.{Ghosts as DiskGhosts}
use Rattle.osd_drive.specs.State.{DriveState}
use Rattle.drive_store.specs.Stores.{IsStoreOf}
use Rattle.drive_command.specs.declared.stored_stop.StoredStop.{StoredStop}
use Rattle.drive_command.specs.declared.stored_stop.StoredStop.TheVariants.{BadStore}
use Rattle.drive_command.specs.Records.{Handled, after_all}
use Rattle.drive_command.specs.Kept.{StandsForSome, StandsSince}
use Rattle.drive_command.specs.Opened.{BeginsWith, IsRefusedAt, LeavesOpenable}
use Rattle.drive_loop.specs.Service.{Ends, HasNotBegun, Serves, StopsKept}
use Rattle.drive_loop.specs.Serving.{AreHandled, records_in}
use Rattle.port_loop.specs.Steps.{Step}

-- ---- what stays on the disk

-- From the moment on at which the drive began to serve, a crash leaves a store of it as `StandsSince` says: with all that was
-- handled to its end till then.
pub record StaysSince {D : Type 0} (s : DiskGhosts D) (drive : DriveState) (handled cut_off : List Handled) (left : D) :
    Type 0 where
  pub began : ℕ
  pub is_past : began ≤ s.moment left
  pub stands : StandsSince IsStoreOf (s.left_since left) (s.moment left) drive handled cut_off began

-- what a crash leaves at any moment of a run, but while a store is made on an empty disk: what it might have left before, or a
-- store of the drive after some first ones of these records
abbrev pub LeavesRun : {D : Type 0} → DiskGhosts D → (disk left : D) → DriveState → List Handled → Type 0
LeavesRun s disk left drive handled =
    (s.seen disk ≡ [])
    ⊎ LeavesOnly s.moment s.left_since disk left (λ c. s.may_leave disk c ⊎ StandsForSome IsStoreOf drive handled c)

-- The drive began from its store, or as the first one, and is as the records of these steps leave it. The disk has each that was
-- handled to its end, and so each to which a reply was put, from the record's own moment on.
pub record HasBegun {D : Type 0} (s : DiskGhosts D) (first drive last : DriveState) (disk left : D) (steps : List Step)
    : Type 0 where
  pub begins : BeginsWith first (s.seen disk) drive
  pub handled : List Handled
  pub cut_off : List Handled
  pub records : AreHandled steps handled cut_off
  pub few : length cut_off ≤ 1
  pub state : last ≡ after_all drive (records_in steps)
  pub any_moment : LeavesRun s disk left drive (records_in steps)
  pub stays : StaysSince s drive handled cut_off left

-- ---- serving from a disk

-- The drive began from its store and has served all connections by these steps. The disk has each of their records from the
-- record's own moment on; at the end it has the drive as it then is, and a crash leaves that.
pub record ServesFrom {D : Type 0} (s : DiskGhosts D) (connections : ℕ) (before now : Ends)
    (taken_before taken : Option (List ℕ)) (disk left : D) (first : DriveState) : Type 0 where
  pub drive : DriveState
  pub begins : IsTrue (s.tells disk) → BeginsWith first (s.seen disk) drive
  pub last : DriveState
  pub steps : List Step
  pub serves : Serves connections drive last before now taken_before taken steps
  pub any_moment : IsTrue (s.tells disk) → LeavesRun s disk left drive (records_in steps)
  pub stays : IsTrue (s.tells disk) → StaysSince s drive (records_in steps) [] left
  pub stands : IsTrue (s.tells disk) → IsStoreOf last (s.seen left)
  pub durable : IsTrue (s.tells disk) → Only (s.seen left) (s.may_leave left)
  -- no call of the disk failed
  pub same : s.faults left ≡ s.faults disk

-- what the disk has is no store of the drive from this place on, and stays as it is
abbrev pub IsNoStore : {D : Type 0} → DiskGhosts D → (first : DriveState) → (disk left : D) → (at : ℕ) → Type 0
IsNoStore s first disk left at = IsTrue (s.tells disk) → (s.seen left ≡ s.seen disk) × IsRefusedAt first (s.seen disk) at

-- why it hasn't: as without a store, or the disk failed, or what it has is no store of the drive
abbrev pub WhyFrom : {D : Type 0} → DiskGhosts D → (first : DriveState) → (connections : ℕ) → (drive last : DriveState)
    → (before now : Ends) → (taken_before taken : Option (List ℕ)) → (failed_before failed : ℕ) → (disk left : D)
    → List Step → StoredStop → Type 0
WhyFrom s first connections drive last before now taken_before taken failed_before failed disk left steps (BadStore at) =
    HasNotBegun drive last before now taken_before taken steps × IsNoStore s first disk left at
WhyFrom s first connections drive last before now taken_before taken failed_before failed disk left steps other =
    StopsKept connections drive last before now taken_before taken failed_before failed (s.faults disk) (s.faults left) steps
    other

-- why it hasn't, and what stays on the disk: if its store wasn't open yet, what it had; else all that it handled
pub record StopsFrom {D : Type 0} (s : DiskGhosts D) (connections : ℕ) (before now : Ends)
    (taken_before taken : Option (List ℕ)) (failed_before failed : ℕ) (disk left : D) (stop : StoredStop) (first : DriveState)
    : Type 0 where
  pub drive : DriveState
  pub last : DriveState
  pub steps : List Step
  pub why : WhyFrom s first connections drive last before now taken_before taken failed_before failed disk left steps stop
  pub stays : (HasNotBegun drive last before now taken_before taken steps
      × (IsTrue (s.tells disk) → LeavesOpenable s disk left))
      ⊎ (IsTrue (s.tells disk) → HasBegun s first drive last disk left steps)
