-- The zones of the server's drives: a drive comes into one by what the server is told, and stays there.
use Rattle.std.specs.Prelude.{◌≡◌, ◌⊎◌, ℕ, true, List, Some}
use Rattle.zone_place.specs.Zones.{stands_in}
use Rattle.server_rules.specs.declared.server.Server.{Server}
use Rattle.server_rules.specs.Zoning.{in_zones}
use Rattle.server_rules.specs.History.{Input, Adds, Zones, step}
use Rattle.component_law.specs.Apart.{IsFresh}
use Rattle.component_law.specs.Spread.{AreApart}

-- the drive is in that zone
abbrev pub Stands : Server → (drive zone : ℕ) → Type 0
Stands s drive zone = stands_in (in_zones s.drives) drive zone ≡ true

-- what comes puts the drive into the zone
abbrev pub Gives : Input → (drive zone : ℕ) → Type 0
Gives (Zones d y) drive zone = (drive ≡ d) × (zone ≡ y)
Gives (Adds d) drive zone = (drive ≡ d.number) × (d.zone ≡ Some zone)
Gives i drive zone = ⊥

-- So it is behind a step.
pub record ZonesGoOn (s : Server) (i : Input) (t : Server) : Type 0 where
  pub came : (drive zone : ℕ) → Stands t drive zone → Stands s drive zone ⊎ Gives i drive zone
  pub stay : (drive zone : ℕ) → Stands s drive zone → Stands t drive zone

abbrev pub EachStepZones : Type 0
EachStepZones =
    (s : Server) (chosen : List ℕ) (i : Input) → AreApart s → IsFresh s i → ZonesGoOn s i (step s chosen i).state
