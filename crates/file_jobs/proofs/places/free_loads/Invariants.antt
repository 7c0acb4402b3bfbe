use Rattle.std.proofs.Common.{◌≡◌, ◌++◌, drop}
use Rattle.std.specs.Prelude.{List, All}
use Rattle.server_rules.specs.declared.files.Component.{Component}
use Rattle.stripe_repair.specs.declared.loads.DriveLoad.{DriveLoad}
use Rattle.stripe_repair.specs.Placing.{FitsLoad}
use Rattle.file_jobs.specs.Placing.{free_loads}
use Rattle.file_jobs.proofs.places.free_loads.Given as goal

pub record Freed (free rest all : List DriveLoad) (cs : List Component) : Type 0 where
  pub value : free ++ free_loads cs rest ≡ free_loads cs all
  pub fits : All FitsLoad free

abbrev pub invariant-loop-load : goal.invariant-loop-load
invariant-loop-load l = Freed l.free (drop l.load-index l.fn.loads) l.fn.loads l.fn.components
