-- What the placer is told of the drives.
use Rattle.std.specs.Prelude.{◌≡◌, ◌-◌, ◌^◌, min}
use Rattle.stripe_repair.specs.declared.loads.DriveLoad.{DriveLoad}
use Rattle.server_state.specs.Tables.{Table}
use Rattle.server_state.specs.Standing.{standing_in}

-- how many present components of these files stand on the load's drive, at most the greatest number of 32 bits
abbrev pub Tells : Table → DriveLoad → Type 0
Tells t l = l.objects ≡ min (standing_in l.drive t) (2 ^ 32 - 1)
