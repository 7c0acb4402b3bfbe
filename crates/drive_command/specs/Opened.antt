-- The store with which a drive begins, and why it can't.
use Rattle.std.specs.Prelude.{◌≡◌, ◌⊎◌, ℕ, List, [], IsTrue}
use Rattle.osd_bytes.specs.Causes.{Rose}
use Rattle.cluster_text.specs.declared.stop.CommandStop.TheVariants as cause
use Rattle.osd_disk.specs.Crashes.{LeavesOnly}
use Rattle.osd_disk.specs.declared.disk.Disk.{Ghosts as DiskGhosts}
use Rattle.osd_drive.specs.State.{DriveState, new_drive}
use Rattle.drive_store.specs.Opening.{IsNoStoreAt}
use Rattle.drive_store.specs.Stores.{IsStoreOf}
use Rattle.drive_command.specs.declared.opened.OwnStore.{OwnStore}
use Rattle.drive_command.specs.declared.opened.TheConstants.{NUMBER_PLACE}
use Rattle.drive_command.specs.declared.stored_stop.StoredStop.{StoredStop}
use Rattle.drive_command.specs.declared.stored_stop.StoredStop.TheVariants.{Command, DiskFault, BadStore}
use Rattle.drive_command.specs.Own.{keys_of}

-- the drive before it has objects
abbrev pub first_of : OwnStore → DriveState
first_of own = new_drive own.number (keys_of own.key) own.capacity

-- the contents are a store of the drive that `first` was before it had objects
pub record IsOwnStore (first : DriveState) (c : List ℕ) (drive : DriveState) : Type 0 where
  pub stands : IsStoreOf drive c
  pub number : drive.number ≡ first.number
  pub keys : drive.keys ≡ first.keys

-- the drive with which serving begins: the first one on an empty disk, else the one of its store
abbrev pub BeginsWith : (first : DriveState) → (seen : List ℕ) → DriveState → Type 0
BeginsWith first seen drive = ((seen ≡ []) × (drive ≡ first)) ⊎ IsOwnStore first seen drive

-- the contents are the store of a drive with another number
pub record IsAnothers (first : DriveState) (c : List ℕ) : Type 0 where
  pub drive : DriveState
  pub stands : IsStoreOf drive c
  pub keys : drive.keys ≡ first.keys
  pub other : drive.number ≡ first.number → ⊥

-- the contents are no store from this place on, or one of another number
abbrev pub IsRefusedAt : (first : DriveState) → List ℕ → (at : ℕ) → Type 0
IsRefusedAt first c at = IsNoStoreAt first.keys c at ⊎ ((at ≡ NUMBER_PLACE) × IsAnothers first c)

-- why a store can't be made or opened; contents that are refused stay as they are
abbrev pub StopsOpening : {D : Type 0} → DiskGhosts D → (first : DriveState) → (disk left : D) → StoredStop → Type 0
StopsOpening s first disk left (Command cause.Memory) = Unit {0}
StopsOpening s first disk left (Command other) = ⊥
StopsOpening s first disk left DiskFault = Rose (s.faults disk) (s.faults left)
StopsOpening s first disk left (BadStore at) =
    IsTrue (s.tells disk) → (s.seen left ≡ s.seen disk) × IsRefusedAt first (s.seen disk) at

-- While a store is opened, a crash leaves what it might have left before. While one is made on an empty disk, it may leave
-- anything.
abbrev pub LeavesOpenable : {D : Type 0} → DiskGhosts D → (disk left : D) → Type 0
LeavesOpenable s disk left = (s.seen disk ≡ []) ⊎ LeavesOnly s.moment s.left_since disk left (s.may_leave disk)
