-- Zones as the server has them: on which drives the components of a zoned file are put.
use Rattle.std.specs.Prelude.{ℕ, Bool, true, false, List, [], ◌∷◌, Option, Some, None, ◌+◌, ◌==◌, length, filter, if◌then◌else◌}
use Rattle.data_map.specs.declared.check.RawMap.{RawMap}
use Rattle.zone_place.specs.declared.loads.Holder.{Holder}
use Rattle.zone_place.specs.Zones.{InZone, ask_of, zone_takes}
use Rattle.server_rules.specs.State.{Kept, Component, Drive}
use Rattle.server_rules.specs.Standing.{free_drives}

-- ---- drives in zones

-- before these, the drive if it is in a zone
abbrev pub and_in_zone : (drive : ℕ) → (zone : Option ℕ) → List InZone → List InZone
and_in_zone n None rest = rest
and_in_zone n (Some z) rest = record { drive = n; zone = z } ∷ rest

-- those that were put into a zone
unfoldable pub in_zones : List Drive → List InZone
in_zones [] = []
in_zones (d ∷ ds) = and_in_zone d.number d.zone (in_zones ds)

-- a drive that is in no zone is put into this one
abbrev pub zone_or : (zone : ℕ) → Option ℕ → Option ℕ
zone_or z None = Some z
zone_or z (Some there) = Some there

-- the drive of that number is put into a zone, and stays in the one where it is
unfoldable pub put_in_zone : List Drive → (drive zone : ℕ) → List Drive
put_in_zone [] n z = []
put_in_zone (d ∷ ds) n z = (if d.number == n then record d { zone = zone_or z d.zone } else d) ∷ put_in_zone ds n z

-- ---- one component more

-- the drives on which components stand, or last stood, from component k on
unfoldable pub holders_from : List Component → (k : ℕ) → List Holder
holders_from [] k = []
holders_from (at ∷ cs) k = record { component = k; drive = at.drive } ∷ holders_from cs (k + 1)

-- the drive is in a zone that takes component k
abbrev pub zone_has_room : List Drive → Kept → (k : ℕ) → (zone : Option ℕ) → Bool
zone_has_room ds f k None = false
zone_has_room ds f k (Some z) = zone_takes (ask_of f.map) (in_zones ds) k z (holders_from f.components 0)

-- the drives that may take component k: free ones, and for a zoned file in a zone with room
abbrev pub takers_by : (zoned : Bool) → List Drive → Kept → (k : ℕ) → List Drive
takers_by false ds f k = free_drives ds f.components
takers_by true ds f k = filter (λ d. zone_has_room ds f k d.zone) (free_drives ds f.components)

abbrev pub takers : List Drive → Kept → (k : ℕ) → List Drive
takers ds f k = takers_by f.zoned ds f k
