-- Where the components of a zoned file stand: no zone has more of a group than its code brings back.
use Rattle.std.specs.Prelude.{◌≡◌, ◌≤◌, ℕ, ◌/◌, ◌==◌, ◌&&◌, Bool, true, List, Option, Some, None, length, map, filter}
use Rattle.std.specs.List.{list_any}
use Rattle.zone_place.specs.declared.asks.ZoneAsk.{ZoneAsk}
use Rattle.zone_place.specs.declared.loads.Holder.{Holder}
use Rattle.zone_place.specs.Zones.{InZone, ask_of, all_asked, stands_in, zone_takes}
use Rattle.server_rules.specs.declared.server.Server.{Server}
use Rattle.server_rules.specs.declared.files.File.{File}
use Rattle.server_rules.specs.declared.files.Kept.{Kept}
use Rattle.server_rules.specs.declared.server.Drive.{Drive}
use Rattle.server_rules.specs.declared.jobs.Target.{Target}
use Rattle.server_rules.specs.Zoning.{in_zones, holders_from}
use Rattle.server_rules.specs.Laws.{In}
use Rattle.server_rules.specs.History.{Input, step}
use Rattle.component_law.specs.Apart.{AreDifferent, IsFresh}
use Rattle.component_law.specs.Objects.{target_of}

-- ---- a file

-- each component with the drive on which it stands, or last stood if it is missing
abbrev pub holders : Kept → List Holder
holders f = holders_from f.components 0

-- those of a group's components that stand, or last stood, in a zone
abbrev pub of_group_in : ZoneAsk → List InZone → (group zone : ℕ) → List Holder → List Holder
of_group_in ask ds group zone hs = filter (λ h. (h.component / ask.size == group) && stands_in ds h.drive zone) hs

-- the drive is in a zone
abbrev pub has_zone : List InZone → (drive : ℕ) → Bool
has_zone ds drive = list_any (λ d. d.drive == drive) ds

-- All components of the file, present or missing, are on drives in zones, and no zone has more of a group than may be
-- lost.
pub record IsSpread (ds : List InZone) (f : Kept) : Type 0 where
  pub whole : length f.components ≡ all_asked (ask_of f.map)
  pub zoned : (h : Holder) → In h (holders f) → has_zone ds h.drive ≡ true
  pub few : (group zone : ℕ) → length (of_group_in (ask_of f.map) ds group zone (holders f)) ≤ (ask_of f.map).most

-- Where a rebuild makes a component anew, the drive is in a zone that has room for it.
pub record HasRoomFor (ds : List InZone) (f : Kept) (t : Target) : Type 0 where
  pub zone : ℕ
  pub stands : stands_in ds t.drive zone ≡ true
  pub takes : zone_takes (ask_of f.map) ds t.component zone (holders f) ≡ true

abbrev pub HasRoom : List InZone → Kept → Option Target → Type 0
HasRoom ds f None = Unit {0}
HasRoom ds f (Some t) = HasRoomFor ds f t

-- so it is of a zoned file
abbrev pub StaysSpread : List InZone → File → Type 0
StaysSpread ds f = f.kept.zoned ≡ true → IsSpread ds f.kept × HasRoom ds f.kept (target_of f.job)

-- ---- the server

-- so it is of each of its files, with the zones of its drives
abbrev pub AreSpread : Server → Type 0
AreSpread s = (f : File) → In f s.files → StaysSpread (in_zones s.drives) f

-- no drive stands twice in its list
abbrev pub AreApart : Server → Type 0
AreApart s = AreDifferent (map (λ (d : Drive). d.number) s.drives)

-- each step leaves it so, if a drive that is added is new
abbrev pub EachStepSpreads : Type 0
EachStepSpreads =
    (s : Server) (chosen : List ℕ) (i : Input) → AreApart s → IsFresh s i → AreSpread s → AreSpread (step s chosen i).state
