-- Over which zones the components of zoned files stand, in every history.
use Rattle.std.specs.Prelude.{◌≡◌, ℕ, true, List, Option, Some, None}
use Rattle.scenario_text.specs.declared.event.Event.TheVariants as event
use Rattle.scenario_text.specs.declared.line.Line.{Line}
use Rattle.scenario_text.specs.declared.line.Line.TheVariants as line
use Rattle.zone_place.specs.Zones.{InZone, stands_in}
use Rattle.server_rules.specs.Laws.{In}
use Rattle.server_rules.specs.Zoning.{in_zones}
use Rattle.world_history.specs.ServerNames.{File}
use Rattle.world_history.specs.Book.{server_after, book_of}
use Rattle.world_history.specs.History.{Lawful}
use Rattle.history_law.specs.Safe.{AtEachMoment}
use Rattle.component_law.specs.Naming.{AreNamed}
use Rattle.component_law.specs.Spread.{IsSpread, HasRoom}
use Rattle.component_law.specs.Failing.{AreLostIn, IsBorne}
use Rattle.component_law.specs.Objects.{target_of}

-- No zone has more components of a group than the code brings back, each counted, present or missing, on the drive on
-- which it stands or last stood. One that is made anew comes into a zone with room for it. So whichever components are
-- lost, if they were all of one zone, no stripe has more positions lost than its parity brings back.
pub record StandsSpread (ds : List InZone) (f : File) : Type 0 where
  pub spread : IsSpread ds f.kept
  pub room : HasRoom ds f.kept (target_of f.job)
  pub borne : (zone : ℕ) (lost : List ℕ) → AreLostIn ds f.kept zone lost → IsBorne f.kept lost

-- so it is of a zoned file
abbrev pub StandSpread : List InZone → Option File → Type 0
StandSpread ds None = Unit {0}
StandSpread ds (Some f) = f.kept.zoned ≡ true → StandsSpread ds f

-- the drives that events put into zones, as the server has them behind the lines
abbrev pub zones_after : List Line → List InZone
zones_after h = in_zones (server_after h).drives

-- So it is of each file's book. The zones are those that events gave: each drive in one was put there, and into no other.
pub record AreComponentsSpread (h : List Line) : Type 0 where
  pub given : (drive zone : ℕ) → stands_in (zones_after h) drive zone ≡ true → In (line.Event (event.Zone drive zone)) h
  pub alone : (drive y z : ℕ) → stands_in (zones_after h) drive y ≡ true → stands_in (zones_after h) drive z ≡ true → y ≡ z
  pub files : (file : ℕ) → StandSpread (zones_after h) (book_of h file)

-- at each moment of a lawful history, where lines can name the drives and files that its events make
abbrev pub ComponentsStandSpread : Type 0
ComponentsStandSpread = (h : List Line) → Lawful h → AreNamed h → AtEachMoment AreComponentsSpread h
