-- When the calls of a log may answer an error.
use Rattle.std.specs.Prelude.{◌≡◌, ◌≤◌, ℕ, Result, OnOk, IsErrOf}
use Rattle.osd_bytes.specs.Causes.{Rose}
use Rattle.gate_log.specs.declared.errors.LogErr.{LogErr}
use Rattle.gate_log.specs.declared.errors.LogErr.TheVariants.{NotEmpty, NotALog, DiskFault, Memory}

-- a fault of the disk is told only where its count rose, and an answer leaves the count
pub record HasLogCause {T : Type 0} (before now : ℕ) (result : Result T LogErr) : Type 0 where
  pub later : before ≤ now
  pub failed : IsErrOf result DiskFault → Rose before now
  pub same : OnOk result (now ≡ before)

-- a refusal of contents says what P says of its number; the other errors say nothing of them
abbrev pub NotEmptySays : (ℕ → Type 0) → LogErr → Type 0
NotEmptySays P (NotEmpty n) = P n
NotEmptySays P (NotALog at) = ⊥
NotEmptySays P DiskFault = Unit {0}
NotEmptySays P Memory = Unit {0}

abbrev pub NotALogSays : (ℕ → Type 0) → LogErr → Type 0
NotALogSays P (NotEmpty n) = ⊥
NotALogSays P (NotALog at) = P at
NotALogSays P DiskFault = Unit {0}
NotALogSays P Memory = Unit {0}

-- an error that tells nothing of contents
abbrev pub IsOfDisk : LogErr → Type 0
IsOfDisk (NotEmpty n) = ⊥
IsOfDisk (NotALog at) = ⊥
IsOfDisk DiskFault = Unit {0}
IsOfDisk Memory = Unit {0}

-- an error that comes with the disk, told by its counts before the call and now
pub record HasErrCause (before now : ℕ) (e : LogErr) : Type 0 where
  pub later : before ≤ now
  pub failed : e ≡ DiskFault → Rose before now
