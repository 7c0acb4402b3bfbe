use Rattle.std.proofs.Common.{◌≡◌, ◌++◌, drop}
use Rattle.std.specs.Prelude.{List, All}
use Rattle.zone_place.specs.declared.loads.ZoneLoad.{ZoneLoad}
use Rattle.zone_place.specs.Choosing.{FitsZoneLoad}
use Rattle.stripe_repair.specs.declared.loads.DriveLoad.{DriveLoad}
use Rattle.stripe_repair.specs.Loads.{zone_loads}
use Rattle.stripe_repair.proofs.loads.zone_loads.Given as goal

pub record Listed (zoned : List ZoneLoad) (rest all : List DriveLoad) : Type 0 where
  pub value : zoned ++ zone_loads rest ≡ zone_loads all
  pub fits : All FitsZoneLoad zoned

abbrev pub invariant-loop-load : goal.invariant-loop-load
invariant-loop-load l = Listed l.zoned (drop l.load-index l.fn.loads) l.fn.loads
