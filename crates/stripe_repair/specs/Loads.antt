-- The loads of those drives that are in a zone.
use Rattle.std.specs.Prelude.{ℕ, List, [], ◌∷◌, Option, Some, None}
use Rattle.zone_place.specs.declared.loads.ZoneLoad.{ZoneLoad}
use Rattle.stripe_repair.specs.declared.loads.DriveLoad.{DriveLoad}

-- before these, the drive if it is in a zone
abbrev pub and_zoned : DriveLoad → (zone : Option ℕ) → List ZoneLoad → List ZoneLoad
and_zoned l None rest = rest
and_zoned l (Some z) rest = record { drive = l.drive; online = l.online; objects = l.objects; zone = z } ∷ rest

-- the drives that were put into a zone, in their order
abbrev pub zone_loads : List DriveLoad → List ZoneLoad
zone_loads [] = []
zone_loads (l ∷ ls) = and_zoned l l.zone (zone_loads ls)
