-- Zones of drives, and how the components of a file are spread over them: no group has more in one zone than its code
-- brings back.
use Rattle.std.specs.Prelude.{◌≡◌, ℕ, zero, suc, Bool, true, false, List, [], ◌∷◌, ◌+◌, ◌-◌, ◌*◌, ◌/◌, ◌==◌, ◌&&◌, not, nat_lt, nat_le, min, length, take, map, filter, sum_by, flat_map, slice_range, if◌then◌else◌}
use Rattle.std.specs.List.{list_any, list_all}
use Rattle.data_map.specs.declared.check.RawMap.{RawMap}
use Rattle.data_map.specs.Striping.{replicas, group_width, groups, parities}
use Rattle.zone_place.specs.declared.asks.ZoneAsk.{ZoneAsk}
use Rattle.zone_place.specs.declared.loads.Holder.{Holder}

-- a drive, and the zone that it is in
pub record InZone : Type 0 where
  pub drive : ℕ
  pub zone : ℕ

-- what a map asks: of P parity units and m mirrors, (P + 1)(m + 1) - 1 components may be lost, and any are brought back
abbrev pub ask_of : RawMap → ZoneAsk
ask_of m = record {
  groups = groups m;
  size = group_width m * replicas m;
  most = (parities m + 1) * replicas m - 1;
}

-- as many as one zone may hold of all groups
abbrev pub zone_most : ZoneAsk → ℕ
zone_most ask = ask.groups * ask.most

-- all components of the file
abbrev pub all_asked : ZoneAsk → ℕ
all_asked ask = ask.groups * ask.size

-- no drive stands twice
unfoldable pub AreDifferent : List InZone → Type 0
AreDifferent [] = Unit {0}
AreDifferent (d ∷ ds) = (list_any (λ k. k.drive == d.drive) ds ≡ false) × AreDifferent ds

-- ---- the zones of drives

-- those of these in a zone
abbrev pub within : (zone : ℕ) → List InZone → List InZone
within zone ds = filter (λ d. d.zone == zone) ds

-- a number among rising ones, once
unfoldable pub with_zone : ℕ → List ℕ → List ℕ
with_zone z [] = z ∷ []
with_zone z (y ∷ ys) = if z == y then y ∷ ys else if nat_lt z y then z ∷ y ∷ ys else y ∷ with_zone z ys

-- the zones in which there is a drive, each once, in rising order
unfoldable pub zones_of : List InZone → List ℕ
zones_of [] = []
zones_of (d ∷ ds) = with_zone d.zone (zones_of ds)

-- the drive is there, and in that zone
abbrev pub stands_in : List InZone → (drive zone : ℕ) → Bool
stands_in ds drive zone = list_any (λ d. (d.drive == drive) && (d.zone == zone)) ds

-- ---- whether there is room

-- how many components the zones take together
abbrev pub room : ZoneAsk → List InZone → ℕ
room ask ds = sum_by (λ z. min (length (within z ds)) (zone_most ask)) (zones_of ds)

-- so many components can be spread over the zones of these drives
abbrev pub has_room : ZoneAsk → List InZone → Bool
has_room ask ds = nat_le (all_asked ask) (room ask ds)

-- ---- what it is to be spread

-- different numbers of these drives
unfoldable pub are_among : List InZone → List ℕ → Bool
are_among ds [] = true
are_among ds (n ∷ ns) = list_any (λ d. d.drive == n) ds && (not (list_any (λ k. k == n) ns) && are_among ds ns)

-- of these, how many are in a zone
abbrev pub many_in : List InZone → (zone : ℕ) → List ℕ → ℕ
many_in ds zone ns = length (filter (λ n. stands_in ds n zone) ns)

-- no zone has too many of a group's drives
abbrev pub fits_zones : ZoneAsk → List InZone → List ℕ → Bool
fits_zones ask ds group = list_all (λ z. nat_le (many_in ds z group) ask.most) (zones_of ds)

-- so many numbers from one on
unfoldable pub counted : (from many : ℕ) → List ℕ
counted from zero = []
counted from (suc n) = from ∷ counted (from + 1) n

-- the drives of group j, of a list that has them group after group
abbrev pub group_at : ZoneAsk → (j : ℕ) → List ℕ → List ℕ
group_at ask j ns = slice_range ns (j * ask.size) (j * ask.size + ask.size)

-- different drives of these, as many as are asked, and each group is spread
unfoldable pub spreads : ZoneAsk → List InZone → List ℕ → Bool
spreads ask ds ns =
    (length ns == all_asked ask) && (are_among ds ns
    && list_all (λ j. fits_zones ask ds (group_at ask j ns)) (counted 0 ask.groups))

-- ---- dealing

-- each q-th of these, behind so many that are passed over
unfoldable pub every : (q wait : ℕ) → List ℕ → List ℕ
every q wait [] = []
every q zero (x ∷ xs) = x ∷ every q (q - 1) xs
every q (suc w) (x ∷ xs) = every q w xs

-- zone after zone, no more of each than it may hold, and as many as are asked
abbrev pub in_line : ZoneAsk → List InZone → List ℕ
in_line ask ds =
    take (all_asked ask) (flat_map (λ z. take (zone_most ask) (map (λ d. d.drive) (within z ds))) (zones_of ds))

-- they are dealt to the groups by turns
unfoldable pub dealt : ZoneAsk → List InZone → List ℕ
dealt ask ds = flat_map (λ j. every ask.groups j (in_line ask ds)) (counted 0 ask.groups)

-- the drives that a rule chose, where they are spread; else those that are dealt
abbrev pub spread : ZoneAsk → List InZone → (chosen : List ℕ) → List ℕ
spread ask ds chosen = if spreads ask ds chosen then chosen else dealt ask ds

-- ---- one component more

-- the other components of k's group that stand, or last stood, in a zone
abbrev pub others_in : ZoneAsk → List InZone → (k zone : ℕ) → List Holder → List Holder
others_in ask ds k zone hs =
    filter (λ h. ((h.component / ask.size == k / ask.size) && not (h.component == k)) && stands_in ds h.drive zone) hs

-- the zone has room for component k
abbrev pub zone_takes : ZoneAsk → List InZone → (k zone : ℕ) → List Holder → Bool
zone_takes ask ds k zone hs = nat_lt (length (others_in ask ds k zone hs)) ask.most
