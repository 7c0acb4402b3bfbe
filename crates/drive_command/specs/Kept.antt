-- What a device server leaves behind, at each moment of the records that it handled.
use Rattle.std.specs.Prelude.{◌≡◌, ◌⊎◌, ◌≤◌, ℕ, List, [], ◌∷◌, ◌++◌, length, Result, IsErrOf, OnOk}
use Rattle.osd_bytes.specs.Causes.{Rose}
use Rattle.osd_disk.specs.Crashes.{LeavesOnly}
use Rattle.osd_drive.specs.State.{DriveState}
use Rattle.osd_drive.specs.Effects.{drive_after}
use Rattle.drive_command.specs.Records.{Handled, after_all}
use Rattle.drive_command.specs.declared.device_server.HandleErr.{HandleErr}
use Rattle.drive_command.specs.declared.device_server.HandleErr.TheVariants.{DiskFault}

-- contents stand for the drive after some of these, the first of them first and none left out
abbrev pub StandsForSome : (stands_for : DriveState → List ℕ → Type 0) → DriveState → List Handled → List ℕ → Type 0
StandsForSome stands_for d [] c = stands_for d c
StandsForSome stands_for d (h ∷ hs) c =
    stands_for d c ⊎ StandsForSome stands_for (drive_after d h.time h.message) hs c

-- A crash from a moment on leaves the drive after some of these records, the last of which may have been cut off. Each of the
-- others was handled to its end, from which on a crash leaves the drive with it.
abbrev pub StandsSince : (stands_for : DriveState → List ℕ → Type 0) → (left_since : ℕ → List ℕ → Type 0) → (now : ℕ) → DriveState
    → (handled cut_off : List Handled) → (since : ℕ) → Type 0
StandsSince stands_for left_since now d [] cut_off since =
    (c : List ℕ) → left_since since c → StandsForSome stands_for d cut_off c
StandsSince stands_for left_since now d (h ∷ hs) cut_off since =
    ((c : List ℕ) → left_since since c → StandsForSome stands_for d (h ∷ (hs ++ cut_off)) c)
    × (end : ℕ) × (since ≤ end) × (end ≤ now)
    × StandsSince stands_for left_since now (drive_after d h.time h.message) hs cut_off end

-- The drive is as these records leave it, of which all were handled to their ends but one at most, which was cut off. If it was
-- kept before, a crash at any moment since leaves contents that stand for it after some of them, and for those that were
-- handled till then.
pub record Carries {H : Type 0} (drive : H → DriveState) (keeps : H → Type 0) (moment : H → ℕ)
    (left_since : H → ℕ → List ℕ → Type 0) (stands_for : DriveState → List ℕ → Type 0) (handled cut_off : List Handled)
    (old new : H)
    : Type 0 where
  pub state : drive new ≡ after_all (drive old) (handled ++ cut_off)
  pub few : length cut_off ≤ 1
  pub crash : keeps old → LeavesOnly moment left_since old new (StandsForSome stands_for (drive old) (handled ++ cut_off))
  pub since : keeps old → StandsSince stands_for (left_since new) (moment new) (drive old) handled cut_off (moment old)

-- a failure of the disk is told only if the count of faults rose, and an answer leaves the count
pub record HasHandleCause {T : Type 0} (before now : ℕ) (result : Result T HandleErr) : Type 0 where
  pub later : before ≤ now
  pub failed : IsErrOf result DiskFault → Rose before now
  pub same : OnOk result (now ≡ before)
