-- If all that a zoned file lost stood in one zone, its code brings it back.
use Rattle.std.specs.Prelude.{◌≡◌, ◌≤◌, ◌<◌, ℕ, true, false, List, length, slice_get, Some}
use Rattle.data_map.specs.Striping.{groups, parities}
use Rattle.zone_place.specs.Zones.{InZone, stands_in}
use Rattle.stripe_plan.specs.Lost as plan
use Rattle.server_rules.specs.declared.files.Kept.{Kept}
use Rattle.server_rules.specs.declared.files.Component.{Component}
use Rattle.server_rules.specs.Standing.{is_beyond}
use Rattle.component_law.specs.Spread.{IsSpread}

-- ---- for who reads and writes

-- each of the lost components, by their numbers, stands or last stood in the zone
abbrev pub AreLostIn : List InZone → Kept → (zone : ℕ) → (lost : List ℕ) → Type 0
AreLostIn ds f zone lost =
    (k : ℕ) → plan.among k lost ≡ true →
    (at : Component) × (slice_get f.components k ≡ Some at) × (stands_in ds at.drive zone ≡ true)

-- no group has more positions lost than its parity brings back, so no stripe does
pub record IsBorne (f : Kept) (lost : List ℕ) : Type 0 where
  pub positions : (group : ℕ) → length (plan.positions_out f.map lost group) ≤ parities f.map
  pub stripes : (stripe : ℕ) → plan.is_short f.map lost stripe ≡ false

-- so it is where they were all of one zone
abbrev pub OneZoneIsBorne : Type 0
OneZoneIsBorne =
    (ds : List InZone) (f : Kept) (zone : ℕ) (lost : List ℕ) → IsSpread ds f → AreLostIn ds f zone lost → IsBorne f lost

-- ---- for the server

-- each missing component last stood in the zone
abbrev pub AreMissingIn : List InZone → Kept → (zone : ℕ) → Type 0
AreMissingIn ds f zone =
    (k : ℕ) (at : Component) → slice_get f.components k ≡ Some at → at.missing ≡ true → stands_in ds at.drive zone ≡ true

-- then the server finds no group beyond what its code brings back
abbrev pub NoneIsBeyond : Type 0
NoneIsBeyond =
    (ds : List InZone) (f : Kept) (zone : ℕ) → IsSpread ds f → AreMissingIn ds f zone →
    (group : ℕ) → group < groups f.map → is_beyond f.map f.components group ≡ false
