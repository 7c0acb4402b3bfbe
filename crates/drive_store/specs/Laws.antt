-- Laws of contents: which drive they stand for, if they stand for one.
use Rattle.std.specs.Prelude.{◌≡◌, ℕ, List}
use Rattle.osd_drive.specs.declared.keys.DriveKey.{DriveKey}
use Rattle.osd_drive.specs.State.{DriveState}
use Rattle.drive_store.specs.Opening.{IsNoStoreAt}
use Rattle.drive_store.specs.Stores.{IsStoreOf}

-- contents stand for no more than one drive with the same keys
abbrev pub StandForOneDrive : Type 0
StandForOneDrive = (d e : DriveState) (c : List ℕ) → IsStoreOf d c → IsStoreOf e c → d.keys ≡ e.keys → d ≡ e

-- what is refused stands for no drive with these keys
abbrev pub RefusedIsNoStore : Type 0
RefusedIsNoStore =
    (keys : List DriveKey) (c : List ℕ) (at : ℕ) → IsNoStoreAt keys c at → (d : DriveState) → IsStoreOf d c → d.keys ≡ keys → ⊥
