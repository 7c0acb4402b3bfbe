-- The loads of drives as if those with higher numbers had fewer objects.
use Rattle.std.specs.Prelude.{◌-◌}
use Rattle.stripe_repair.specs.declared.loads.DriveLoad.{DriveLoad}

abbrev pub ranked : DriveLoad → DriveLoad
ranked l = record l { objects = 4294967295 - l.drive }
