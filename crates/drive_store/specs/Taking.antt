-- What comes of a record that is taken into a drive.
use Rattle.std.specs.Prelude.{◌≡◌, Bool, true, false, Option, Some, None}
use Rattle.osd_drive.specs.State.{DriveState}

-- it is taken, and the drive is what the record leads to; or it is none, and the drive stays
abbrev pub Takes : (taken : Bool) → (old new : DriveState) → Option DriveState → Type 0
Takes true old new after = after ≡ Some new
Takes false old new after = (after ≡ None) × (new ≡ old)
