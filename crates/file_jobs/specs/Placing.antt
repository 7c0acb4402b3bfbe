-- The drives among which a missing component is placed.
use Rattle.std.specs.Prelude.{ℕ, Bool, true, List, [], Option, Some, None, ◌≡◌, ◌==◌, ◌&&◌, not, map, find, is_some}
use Rattle.server_rules.specs.declared.files.Component.{Component}
use Rattle.server_rules.specs.declared.server.Drive.{Drive}
use Rattle.server_rules.specs.declared.files.Kept.{Kept}
use Rattle.server_rules.specs.Standing.{stood_on}
use Rattle.server_rules.specs.Zoning.{takers}
use Rattle.stripe_repair.specs.declared.loads.DriveLoad.{DriveLoad}

-- the loads of these drives, in their order
abbrev pub AreLoadsOf : List DriveLoad → List Drive → Type 0
AreLoadsOf loads ds =
    map {B = ℕ × Bool × Option ℕ} (λ l. (l.drive, l.online, l.zone)) loads
    ≡ map {B = ℕ × Bool × Option ℕ} (λ d. (d.number, d.online, d.zone)) ds

-- online where it is free for the file
abbrev pub free_load : List Component → DriveLoad → DriveLoad
free_load cs l = record l { online = l.online && not (stood_on l.drive cs) }

abbrev pub free_loads : List Component → List DriveLoad → List DriveLoad
free_loads cs loads = map (free_load cs) loads

-- one of these drives, and none only where there is none
abbrev pub IsAmong : List Drive → Option ℕ → Type 0
IsAmong ds None = ds ≡ []
IsAmong ds (Some drive) = is_some (find (λ d. d.number == drive) ds) ≡ true

-- a drive that may take component k, and none only where there is none
abbrev pub IsPick : List Drive → Kept → (k : ℕ) → Option ℕ → Type 0
IsPick ds kept k found = IsAmong (takers ds kept k) found
