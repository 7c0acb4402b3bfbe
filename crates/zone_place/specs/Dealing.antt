-- How the zones are gone through, from the lowest on.
use Rattle.std.specs.Prelude.{ℕ, List, [], ◌∷◌, Option, Some, None, nat_le, if◌then◌else◌}
use Rattle.zone_place.specs.Zones.{InZone}

-- of a zone and what was found among others, the lower
abbrev pub lower : ℕ → Option ℕ → Option ℕ
lower z None = Some z
lower z (Some y) = if nat_le z y then Some z else Some y

-- of what was found so far and a zone behind it, the lower
abbrev pub lowered : Option ℕ → ℕ → Option ℕ
lowered None z = Some z
lowered (Some y) z = if nat_le y z then Some y else Some z

-- the lowest zone of these drives, of those from a number on
unfoldable pub zone_from : (lowest : ℕ) → List InZone → Option ℕ
zone_from lowest [] = None
zone_from lowest (d ∷ ds) = if nat_le lowest d.zone then lower d.zone (zone_from lowest ds) else zone_from lowest ds
