-- How the drives are gone through, from the first on.
use Rattle.std.specs.Prelude.{Option, Some, None, if◌then◌else◌}
use Rattle.zone_place.specs.declared.loads.ZoneLoad.{ZoneLoad}
use Rattle.zone_place.specs.Choosing.{comes_before}

-- of the drive that was found so far and another behind it, the one that is chosen
abbrev pub chosen_of : Option ZoneLoad → ZoneLoad → Option ZoneLoad
chosen_of None l = Some l
chosen_of (Some f) l = if comes_before f l then Some f else Some l
