-- The drive that contents stand for, and a store as it stands on its disk.
use Rattle.std.specs.Prelude.{◌≡◌, ◌⊎◌, ◌<◌, ◌^◌, ℕ, List, Bool, Some}
use Rattle.gate_log.specs.declared.log.GateLog.{GateLog}
use Rattle.gate_log.specs.Logs.{IsLog}
use Rattle.gate_log.specs.Standing.{IsAtRest, disk_of, over_of}
use Rattle.osd_drive.specs.State.{DriveState, new_drive}
use Rattle.drive_store.specs.declared.store.StoredDrive.{StoredDrive}
use Rattle.drive_store.specs.Header.{header_of}
use Rattle.drive_store.specs.Records.{after_record, replayed}

-- the drive as it was made: without objects, and with the first format
abbrev pub emptied : DriveState → DriveState
emptied d = new_drive d.number d.keys d.store.capacity

-- the header of its store
abbrev pub header_for : DriveState → List ℕ
header_for d = header_of d.number d.store.capacity

-- these records lead to the drive, from it as it was made
pub record LeadTo (records : List (List ℕ)) (d : DriveState) : Type 0 where
  pub number_fits : d.number < 2 ^ 32
  pub capacity_fits : d.store.capacity < 2 ^ 64
  pub drive : replayed (Some (emptied d)) records ≡ Some d

-- contents stand for a drive: they are a log with its header, of records that lead to it
pub record IsStoreOf (d : DriveState) (c : List ℕ) : Type 0 where
  pub records : List (List ℕ)
  pub log : IsLog (header_for d) records c
  pub lead : LeadTo records d

-- contents stand for the one drive or for the other
abbrev pub StandForEither : (before after : DriveState) → List ℕ → Type 0
StandForEither before after c = IsStoreOf before c ⊎ IsStoreOf after c

-- a record leads from a drive to another, which was made alike
pub record IsStep (before : DriveState) (bytes : List ℕ) (after : DriveState) : Type 0 where
  pub leads : after_record before bytes ≡ Some after
  pub same : emptied after ≡ emptied before

-- the disk of a log tells its bytes, a crash leaves all of them, and they stand for the drive
pub record KeepsDrive {D : Type 0} (tells : D → Bool) (seen : D → List ℕ) (may_leave : D → List ℕ → Type 0) (d : DriveState)
    (log : GateLog D) : Type 0 where
  pub records : List (List ℕ)
  pub rest : IsAtRest tells seen may_leave (header_for d) records log
  pub lead : LeadTo records d

-- ---- a stored drive

-- the drive
abbrev pub core_of : {D : Type 0} → StoredDrive D → DriveState
core_of store = store.core

-- its disk
abbrev pub disk_in : {D : Type 0} → StoredDrive D → D
disk_in store = disk_of store.log

-- a call of its disk failed
abbrev pub is_over_in : {D : Type 0} → StoredDrive D → Bool
is_over_in store = over_of store.log

-- its disk has the drive as it is
abbrev pub IsKept : {D : Type 0} (tells : D → Bool) (seen : D → List ℕ) (may_leave : D → List ℕ → Type 0) (store : StoredDrive D)
    → Type 0
IsKept tells seen may_leave store = KeepsDrive tells seen may_leave store.core store.log
