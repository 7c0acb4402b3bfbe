-- Drives that are put into a zone, and those that may take a component.
use Rattle.std.proofs.Common.{◌≡◌, ◌==◌, ℕ, Bool, true, false, List, [], ◌∷◌, Option, map, filter, refl, if◌then◌else◌}
use Rattle.std.specs.List.{list_any}
use Rattle.server_rules.specs.State.{Kept, Drive}
use Rattle.server_rules.specs.Standing.{free_drives}
use Rattle.server_rules.specs.Zoning.{put_in_zone, zone_has_room, takers_by, takers}

-- ---- a drive is put into a zone

-- what isn't told of zones
abbrev pub IsZoneless : {A : Type 0} → (Drive → A) → Type 0
IsZoneless f = (d : Drive) (z : Option ℕ) → f (record d { zone = z }) ≡ f d

put_as : {A : Type 0} (f : Drive → A) → IsZoneless f → (b : Bool) (d : Drive) (z : Option ℕ)
    → f (if b then record d { zone = z } else d) ≡ f d
put_as f same true d z = same d z
put_as f same false d z = refl

pub map_zoned : {A : Type 0} (f : Drive → A) → IsZoneless f → (ds : List Drive) (n z : ℕ)
    → map f (put_in_zone ds n z) ≡ map f ds
unfolding put_in_zone
map_zoned f same [] n z = refl
map_zoned f same (d ∷ ds) n z =
    rw (put_as f same (d.number == n) d _, map_zoned f same ds n z) refl

pub any_zoned : (p : Drive → Bool) → IsZoneless p → (ds : List Drive) (n z : ℕ)
    → list_any p (put_in_zone ds n z) ≡ list_any p ds
unfolding put_in_zone
any_zoned p same [] n z = refl
any_zoned p same (d ∷ ds) n z =
    rw (put_as p same (d.number == n) d _, any_zoned p same ds n z) refl

-- ---- the drives that may take a component

-- what holds of free drives, and of any part of them
pub of_takers : (P : List Drive → Type 0) → ((p : Drive → Bool) (ds : List Drive) → P ds → P (filter p ds))
    → (ds : List Drive) (f : Kept) (k : ℕ) → P (free_drives ds f.components) → P (takers ds f k)
of_takers P part ds f k h = by f.zoned
  where
    by : (b : Bool) → P (takers_by b ds f k)
    by false = h
    by true = part (λ d. zone_has_room ds f k d.zone) (free_drives ds f.components) h
