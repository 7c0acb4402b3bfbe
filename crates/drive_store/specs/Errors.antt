-- When a store may answer an error.
use Rattle.std.specs.Prelude.{◌≡◌, ◌≤◌, ℕ, Result, IsErrOf, OnOk}
use Rattle.gate_log.specs.declared.errors.LogErr.{LogErr}
use Rattle.gate_log.specs.declared.errors.LogErr.TheVariants as log
use Rattle.osd_bytes.specs.Causes.{Rose}
use Rattle.drive_store.specs.declared.errors.StoreErr.{StoreErr}
use Rattle.drive_store.specs.declared.errors.StoreErr.TheVariants.{NotEmpty, DiskFault, NotAStore, Memory}

-- what a store answers if its log failed
abbrev pub told_by : LogErr → StoreErr
told_by (log.NotEmpty size) = NotEmpty size
told_by (log.NotALog at) = NotAStore at
told_by log.DiskFault = DiskFault
told_by log.Memory = Memory

-- a fault of the disk is told only if its count rose, and an answer leaves the count
pub record HasStoreCause {T : Type 0} (before now : ℕ) (result : Result T StoreErr) : Type 0 where
  pub later : before ≤ now
  pub failed : IsErrOf result DiskFault → Rose before now
  pub same : OnOk result (now ≡ before)

-- an error that comes with the disk, told by its counts before the call and now
pub record HasErrCause (before now : ℕ) (e : StoreErr) : Type 0 where
  pub later : before ≤ now
  pub failed : e ≡ DiskFault → Rose before now

-- an error that tells nothing of contents
abbrev pub IsOfDisk : StoreErr → Type 0
IsOfDisk (NotEmpty size) = ⊥
IsOfDisk DiskFault = Unit {0}
IsOfDisk (NotAStore at) = ⊥
IsOfDisk Memory = Unit {0}

-- a refusal of contents says what P says of its number; the other errors say nothing of them
abbrev pub NotEmptySays : (ℕ → Type 0) → StoreErr → Type 0
NotEmptySays P (NotEmpty size) = P size
NotEmptySays P DiskFault = Unit {0}
NotEmptySays P (NotAStore at) = ⊥
NotEmptySays P Memory = Unit {0}

abbrev pub NotAStoreSays : (ℕ → Type 0) → StoreErr → Type 0
NotAStoreSays P (NotEmpty size) = ⊥
NotAStoreSays P DiskFault = Unit {0}
NotAStoreSays P (NotAStore at) = P at
NotAStoreSays P Memory = Unit {0}
