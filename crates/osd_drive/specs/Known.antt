-- The capability whose key a drive keeps.
use Rattle.std.specs.Prelude.{ℕ, List}
use Rattle.osd_capability.specs.declared.layout.Capability.{Capability}
use Rattle.osd_drive.specs.declared.keys.DriveKey.{DriveKey}

-- the drive's key that it is under, and the capability
pub record Known : Type 0 where
  pub key : List ℕ
  pub capability : Capability

abbrev pub known : DriveKey → Capability → Known
known k c = record { key = k.key; capability = c }
