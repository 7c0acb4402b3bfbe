-- When a disk may answer an error, and what a read gives.
use Rattle.std.specs.Prelude.{◌≡◌, ◌<◌, ℕ, ◌≤◌, List, length, take, drop, Result, IsErrOf, OnOk}
use Rattle.osd_bytes.specs.Causes.{Rose}
use Rattle.osd_disk.specs.declared.disk.DiskErr.{DiskErr}
use Rattle.osd_disk.specs.declared.disk.DiskErr.TheVariants.{Fault}

-- a fault is told only where the count of faults rose, and an answer leaves the count
pub record HasDiskCause {T : Type 0} (before now : ℕ) (result : Result T DiskErr) : Type 0 where
  pub later : before ≤ now
  pub failed : IsErrOf result Fault → Rose before now
  pub same : OnOk result (now ≡ before)

-- A read at a place gives a buffer its first n bytes: those of the disk from there on. None for a buffer that isn't empty are
-- the disk's end.
pub record Gives (bytes : List ℕ) (at : ℕ) (buffer : List ℕ) (n : ℕ) : Type 0 where
  pub front : take n buffer ≡ take n (drop at bytes)
  pub ends : n ≡ 0 → 0 < length buffer → length bytes ≤ at
