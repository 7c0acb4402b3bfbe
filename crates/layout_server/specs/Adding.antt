-- A further drive.
use Rattle.std.specs.Prelude.{ℕ, List, [], ◌∷◌, ◌≡◌, ◌<◌, true, None, suc, nat_lt, if◌then◌else◌}
use Rattle.server_rules.specs.declared.server.Drive.{Drive}
use Rattle.zone_place.specs.declared.loads.TheConstants.{MAX_DRIVES}
use Rattle.server_rules.specs.Making.{add_drive}
use Rattle.layout_server.specs.declared.drives.DriveInfo.{DriveInfo}

-- no drive has that number
abbrev pub IsNew : (number : ℕ) → List Drive → Type 0
IsNew number [] = Unit {0}
IsNew number (d ∷ ds) = (d.number ≡ number → ⊥) × IsNew number ds

-- a drive that wasn't declared
abbrev pub drive_of : DriveInfo → Drive
drive_of i = record { number = i.number; key = i.key; capacity = i.capacity; online = true; zone = None }

-- the drives and further ones, in order of their numbers
abbrev pub and_drives : List Drive → List DriveInfo → List Drive
and_drives ds [] = ds
and_drives ds (i ∷ is) = and_drives (add_drive ds (drive_of i)) is

-- the place of a new drive: before the first with a number that isn't less
unfoldable pub rank_in : List Drive → (number : ℕ) → ℕ
rank_in [] number = 0
rank_in (d ∷ ds) number = if nat_lt d.number number then suc (rank_in ds number) else 0

-- further drives of new numbers below MAX_DRIVES
abbrev pub CanAdd : List Drive → List DriveInfo → Type 0
CanAdd ds [] = Unit {0}
CanAdd ds (i ∷ is) = IsNew i.number ds × (i.number < MAX_DRIVES) × CanAdd (add_drive ds (drive_of i)) is
