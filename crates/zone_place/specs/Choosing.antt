-- What is asked of a rule that spreads components over zones, and what it gives.
use Rattle.std.specs.Prelude.{◌≡◌, ℕ, ◌<◌, ◌≤◌, ◌^◌, ◌==◌, ◌&&◌, ◌||◌, not, nat_lt, Bool, false, List, [], ◌∷◌, Option, Some, None, length, map, filter, All, IsTrue, if◌then◌else◌}
use Rattle.std.specs.List.{list_any}
use Rattle.std.specs.Result.{ForOk}
use Rattle.std.specs.Prelude.{Result}
use Rattle.std.specs.Fn.{Shared}
use Rattle.std.specs.Borrow.{Bor}
use Rattle.osd_lists.specs.declared.memory.Memory.{Memory}
use Rattle.zone_place.specs.declared.asks.ZoneAsk.{ZoneAsk}
use Rattle.zone_place.specs.declared.loads.ZoneLoad.{ZoneLoad}
use Rattle.zone_place.specs.declared.loads.Holder.{Holder}
use Rattle.zone_place.specs.declared.loads.TheConstants.{MAX_DRIVES}
use Rattle.zone_place.specs.Zones.{InZone, has_room, spreads, zone_takes}

-- the drives of loads with their zones, in order
abbrev pub placed : ZoneLoad → InZone
placed l = record { drive = l.drive; zone = l.zone }

abbrev pub all_placed : List ZoneLoad → List InZone
all_placed loads = map placed loads

-- those that are online
abbrev pub online_placed : List ZoneLoad → List InZone
online_placed loads = all_placed (filter (λ l. l.online) loads)

-- numbers that fit their types
abbrev pub FitsZoneLoad : ZoneLoad → Type 0
FitsZoneLoad l = (l.drive < 2 ^ 32) × (l.objects < 2 ^ 32) × (l.zone < 2 ^ 32)

-- no drive stands twice
unfoldable pub AreApart : List ZoneLoad → Type 0
AreApart [] = Unit {0}
AreApart (l ∷ ls) = (list_any (λ k. k.drive == l.drive) ls ≡ false) × AreApart ls

pub record FitsAsk (ask : ZoneAsk) : Type 0 where
  pub groups : ask.groups < 2 ^ 32
  pub size : ask.size < 2 ^ 32
  pub most : ask.most < 2 ^ 32

-- a spread may be asked of these drives
pub record CanSpread (ask : ZoneAsk) (loads : List ZoneLoad) : Type 0 where
  pub few : length loads ≤ MAX_DRIVES
  pub fits : All FitsZoneLoad loads
  pub asked : FitsAsk ask
  pub different : AreApart loads
  pub room : IsTrue (has_room ask (online_placed loads))

-- online drives of these, spread as is asked
abbrev pub Spreads : ZoneAsk → List ZoneLoad → List ℕ → Type 0
Spreads ask loads chosen = IsTrue (spreads ask (online_placed loads) chosen)

-- a closure may be called wherever a spread may be asked, and its list is one
pub record IsZonePlacer {Z : Type 0} (g : Shared Z (Bor ZoneAsk × (Bor (List ZoneLoad) × Unit {0})) (Result (List ℕ) Memory))
    (z : Z)
    : Type 0 where
  pub callable : (ask : Bor ZoneAsk) (loads : Bor (List ZoneLoad)) → CanSpread ask.now loads.now → g.pre z (ask, (loads, tt))
  pub spreads : (ask : Bor ZoneAsk) (loads : Bor (List ZoneLoad)) (r : Result (List ℕ) Memory) → CanSpread ask.now loads.now
      → g.post z (ask, (loads, tt)) r → ForOk r (Spreads ask.now loads.now)

-- ---- a drive for one component

-- none of a file's components stands, or last stood, on the drive
abbrev pub is_free : (drive : ℕ) → List Holder → Bool
is_free drive hs = not (list_any (λ h. h.drive == drive) hs)

-- the drive may take component k
abbrev pub takes : ZoneAsk → List ZoneLoad → (k : ℕ) → List Holder → ZoneLoad → Bool
takes ask loads k hs l = l.online && (is_free l.drive hs && zone_takes ask (all_placed loads) k l.zone hs)

-- the one drive is chosen before the other: it has fewer objects, or as many and a lower number
abbrev pub comes_before : ZoneLoad → ZoneLoad → Bool
comes_before a b = nat_lt a.objects b.objects || ((a.objects == b.objects) && nat_lt a.drive b.drive)

-- of a drive and what was found among the others, the first by that order
abbrev pub earlier : ZoneLoad → Option ZoneLoad → Option ZoneLoad
earlier l None = Some l
earlier l (Some m) = if comes_before l m then Some l else Some m

unfoldable pub first_of : List ZoneLoad → Option ZoneLoad
first_of [] = None
first_of (l ∷ ls) = earlier l (first_of ls)

-- of the drives that may take component k, the one with the fewest objects, and of equals that of the lowest number
abbrev pub pick_of : ZoneAsk → (k : ℕ) → List Holder → List ZoneLoad → Option ZoneLoad
pick_of ask k hs loads = first_of (filter (takes ask loads k hs) loads)
