-- A drive whose changes are gathered before they are on its disk.
use Rattle.std.specs.Prelude.{◌≡◌, ℕ, List, [], Bool, Some}
use Rattle.gate_log.specs.declared.log.GateLog.{GateLog}
use Rattle.gate_log.specs.Standing.{disk_of, over_of}
use Rattle.gate_log.specs.Together.{HaveBodies}
use Rattle.osd_drive.specs.State.{DriveState}
use Rattle.drive_store.specs.declared.gathering.GatheringDrive.{GatheringDrive}
use Rattle.drive_store.specs.declared.store.StoredDrive.{StoredDrive}
use Rattle.drive_store.specs.Records.{replayed}
use Rattle.drive_store.specs.Stores.{KeepsDrive, emptied}

-- the log of a store
abbrev pub log_of : {D : Type 0} → StoredDrive D → GateLog D
log_of store = store.log

-- of a drive that gathers changes: the drive, its log, the disk of that, and whether a call of it failed
abbrev pub drive_in : {D : Type 0} → GatheringDrive D → DriveState
drive_in store = store.core

abbrev pub log_in : {D : Type 0} → GatheringDrive D → GateLog D
log_in store = store.log

abbrev pub gathering_disk : {D : Type 0} → GatheringDrive D → D
gathering_disk store = disk_of store.log

abbrev pub is_stopped : {D : Type 0} → GatheringDrive D → Bool
is_stopped store = over_of store.log

-- the changes that are gathered lead from a drive to it as it is
pub record LeadsFrom {D : Type 0} (first : DriveState) (store : GatheringDrive D) : Type 0 where
  pub records : List (List ℕ)
  pub gathered : HaveBodies records store.gathered
  pub leads : replayed (Some first) records ≡ Some store.core
  pub same : emptied store.core ≡ emptied first

-- no change is gathered
abbrev pub IsEmpty : {D : Type 0} → GatheringDrive D → Type 0
IsEmpty store = HaveBodies [] store.gathered

-- its disk has the drive as it is
pub record IsCommitted {D : Type 0} (tells : D → Bool) (seen : D → List ℕ) (may_leave : D → List ℕ → Type 0)
    (store : GatheringDrive D) : Type 0 where
  pub kept : KeepsDrive tells seen may_leave store.core store.log
  pub empty : IsEmpty store
