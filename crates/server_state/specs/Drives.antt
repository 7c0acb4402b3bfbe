-- The server's drives: at most one for each number below 64, in order of their numbers.
use Rattle.std.specs.Prelude.{ℕ, List, [], ◌∷◌, ◌<◌, ◌≤◌, ◌+◌}
use Rattle.server_rules.specs.declared.server.Drive.{Drive}
use Rattle.zone_place.specs.declared.loads.TheConstants.{MAX_DRIVES}

-- their numbers rise from this one on, and are below 64
abbrev pub RiseFrom : (least : ℕ) → List Drive → Type 0
RiseFrom least [] = Unit {0}
RiseFrom least (d ∷ ds) = (least ≤ d.number) × (d.number < MAX_DRIVES) × RiseFrom (d.number + 1) ds

abbrev pub AreDrives : List Drive → Type 0
AreDrives ds = RiseFrom 0 ds
