use Rattle.std.proofs.Common.{◌≡◌, ◌++◌, drop}
use Rattle.std.specs.Prelude.{ℕ, Bool, List, Option, All, map}
use Rattle.server_rules.specs.declared.server.Drive.{Drive}
use Rattle.stripe_repair.specs.declared.loads.DriveLoad.{DriveLoad}
use Rattle.stripe_repair.specs.Placing.{FitsLoad}
use Rattle.server_state.specs.Counts.{Counts, told}
use Rattle.layout_server.proofs.loads.loads_with.Given as goal

abbrev pub in_load : DriveLoad → ℕ × Bool × Option ℕ
in_load l = (l.drive, l.online, l.zone)

abbrev pub in_drive : Drive → ℕ × Bool × Option ℕ
in_drive d = (d.number, d.online, d.zone)

pub record Loaded (counts : Counts) (loads : List DriveLoad) (rest all : List Drive) : Type 0 where
  pub value : map in_load loads ++ map in_drive rest ≡ map in_drive all
  pub fits : All FitsLoad loads
  pub tells : All (λ l. l.objects ≡ told counts l.drive) loads

abbrev pub invariant-loop-drive : goal.invariant-loop-drive
invariant-loop-drive l = Loaded l.fn.counts l.loads (drop l.drive-index l.fn.drives) l.fn.drives
