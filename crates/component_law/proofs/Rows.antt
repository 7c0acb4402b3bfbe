-- What the definitions give on small files.
use Rattle.std.proofs.Common.{◌≡◌, ℕ, ◌≤◌, List, [], ◌∷◌, true, false, refl, arith}
use Rattle.data_map.specs.declared.check.RawMap.{RawMap}
use Rattle.zone_place.specs.Zones.{InZone, ask_of, with_zone, zones_of, are_among, counted, spreads, zone_takes}
use Rattle.stripe_plan.specs.Lost as plan
use Rattle.server_rules.specs.declared.files.Kept.{Kept}
use Rattle.server_rules.specs.declared.files.Phase.TheVariants.{Still}
use Rattle.server_rules.specs.Making.{components_on}
use Rattle.server_rules.specs.Standing.{lose_from, replica_from, lacking, is_beyond}
use Rattle.server_rules.specs.Numbers.{among}
use Rattle.server_rules.specs.Zoning.{holders_from}
use Rattle.component_law.specs.Spread.{holders, IsSpread}
use Rattle.component_law.proofs.ZoneMaking.{made_spread}

abbrev at : (drive zone : ℕ) → InZone
at drive zone = record { drive = drive; zone = zone }

-- eight drives in three zones
abbrev racks : List InZone
racks = at 0 7 ∷ at 1 7 ∷ at 2 8 ∷ at 3 8 ∷ at 4 9 ∷ at 5 9 ∷ at 6 8 ∷ at 7 9 ∷ []

-- two groups of three components, any one of which may be lost
abbrev grouped : RawMap
grouped = record { comps = 6; unit = 4; width = 3; depth = 1; mirrors = 0; algorithm = 2 }

-- a file with this map on these drives
abbrev file_on : RawMap → List ℕ → Kept
file_on m drives = record {
  number = 0;
  map = m;
  zoned = true;
  first_tag = 1;
  tag = 1;
  format = 1;
  size = 0;
  high = 0;
  ready = true;
  phase = Still;
  components = components_on drives 1;
  grants = [];
  ended = [];
}

-- one drive of each zone in each group
abbrev even : Kept
even = file_on grouped (0 ∷ 2 ∷ 4 ∷ 1 ∷ 3 ∷ 5 ∷ [])

even_is_spread : IsSpread racks even
unfolding spreads are_among counted zones_of with_zone
even_is_spread = made_spread racks even (0 ∷ 2 ∷ 4 ∷ 1 ∷ 3 ∷ 5 ∷ []) 1 refl refl

-- two of zone 7 in the first group
abbrev uneven : Kept
uneven = file_on grouped (0 ∷ 1 ∷ 4 ∷ 2 ∷ 3 ∷ 5 ∷ [])

uneven_is_not : IsSpread racks uneven → ⊥
unfolding components_on holders_from
uneven_is_not h = let few : 2 ≤ 1 = h.few 0 7 in omega (arith, few)

-- ---- one more

-- component 1 comes back in its own zone
in_its_own_zone : zone_takes (ask_of grouped) racks 1 8 (holders even) ≡ true
unfolding components_on holders_from
in_its_own_zone = refl

-- in no other, since another component of its group stands there
in_no_other : zone_takes (ask_of grouped) racks 1 9 (holders even) ≡ false
unfolding components_on holders_from
in_no_other = refl

-- ---- a zone fails

-- zone 8 has components 1 and 4: both groups are brought back
a_zone_is_borne : plan.is_short grouped (1 ∷ 4 ∷ []) 0 ≡ false
unfolding plan.is_short plan.positions_out plan.out_from plan.source plan.source_from
a_zone_is_borne = refl

the_other_group_too : plan.is_short grouped (1 ∷ 4 ∷ []) 1 ≡ false
unfolding plan.is_short plan.positions_out plan.out_from plan.source plan.source_from
the_other_group_too = refl

-- of the file that isn't spread, zone 7 takes two of a group
a_zone_is_too_much : plan.is_short grouped (0 ∷ 1 ∷ []) 0 ≡ true
unfolding plan.is_short plan.positions_out plan.out_from plan.source plan.source_from
a_zone_is_too_much = refl

-- the server finds that group beyond its code
it_is_beyond : is_beyond grouped (lose_from (0 ∷ 1 ∷ []) (components_on (0 ∷ 1 ∷ 4 ∷ 2 ∷ 3 ∷ 5 ∷ []) 1) 0) 0 ≡ true
unfolding lacking replica_from lose_from among components_on
it_is_beyond = refl

-- three positions of two replicas each, of which one is parity: three components may be lost, so two zones do
abbrev mirrored : RawMap
mirrored = record { comps = 6; unit = 4; width = 0; depth = 0; mirrors = 1; algorithm = 2 }

two_zones_do : IsSpread racks (file_on mirrored (2 ∷ 3 ∷ 6 ∷ 4 ∷ 5 ∷ 7 ∷ []))
unfolding spreads are_among counted zones_of with_zone
two_zones_do =
    made_spread racks (file_on mirrored (2 ∷ 3 ∷ 6 ∷ 4 ∷ 5 ∷ 7 ∷ [])) (2 ∷ 3 ∷ 6 ∷ 4 ∷ 5 ∷ 7 ∷ []) 1 refl refl
