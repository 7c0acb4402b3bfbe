-- Which maps can be used.
use Rattle.std.specs.Prelude.{◌≡◌, ℕ, ◌+◌, ◌%◌, ◌<◌, ◌≤◌, ◌==◌, nat_eq, nat_lt, Bool, not, if◌then◌else◌, ◌||◌, Result, Ok, Err}
use Rattle.data_map.specs.declared.check.TheConstants.{MAX_COMPONENTS, MAX_DEPTH, MAX_STRIPE_UNIT, MAX_WIDTH, RAID_0, RAID_PQ}
use Rattle.data_map.specs.declared.check.RawMap.{RawMap}
use Rattle.data_map.specs.declared.check.MapErr.{MapErr}
use Rattle.data_map.specs.declared.check.MapErr.TheVariants.{Unit as BadUnit, TooMany, TooFew, Multiple, Width, Depth}
use Rattle.data_map.specs.Striping.{replicas, positions, group_width, parities}

-- the number of RAID 0, RAID 4, RAID 5 or RAID P+Q, whoever holds it
abbrev pub IsAlgorithm : ℕ → Type 0
IsAlgorithm n = (RAID_0 ≤ n) × (n ≤ RAID_PQ)

-- what a map must have before it is checked
abbrev pub HasAlgorithm : RawMap → Type 0
HasAlgorithm m = IsAlgorithm m.algorithm

-- ---- the reasons against a map

abbrev pub bad_unit : RawMap → Bool
bad_unit m = nat_eq m.unit 0 || nat_lt MAX_STRIPE_UNIT m.unit

abbrev pub too_many : RawMap → Bool
too_many m = nat_lt MAX_COMPONENTS m.comps

abbrev pub too_few : RawMap → Bool
too_few m = nat_eq m.comps 0

abbrev pub bad_multiple : RawMap → Bool
bad_multiple m = not (nat_eq (m.comps % replicas m) 0)

abbrev pub bad_width : RawMap → Bool
bad_width m = nat_lt MAX_WIDTH (group_width m) || not (nat_eq (positions m % group_width m) 0)
    || nat_lt (group_width m) (parities m + 1)

abbrev pub bad_depth : RawMap → Bool
bad_depth m = if m.width == 0 then not (nat_eq m.depth 0) else (nat_eq m.depth 0 || nat_lt MAX_DEPTH m.depth)

-- the first reason against a map, or the map
unfoldable pub checked : RawMap → Result RawMap MapErr
checked m =
    if bad_unit m then Err BadUnit
    else if too_many m then Err TooMany
    else if too_few m then Err TooFew
    else if bad_multiple m then Err Multiple
    else if bad_width m then Err Width
    else if bad_depth m then Err Depth
    else Ok m

-- what there is to rely on after the check
pub record IsChecked (m : RawMap) : Type 0 where
  pub some_unit : 0 < m.unit
  pub short_unit : m.unit ≤ MAX_STRIPE_UNIT
  pub some_components : 0 < m.comps
  pub few_components : m.comps ≤ MAX_COMPONENTS
  pub whole_positions : m.comps % replicas m ≡ 0
  pub narrow : group_width m ≤ MAX_WIDTH
  pub whole_groups : positions m % group_width m ≡ 0
  pub some_data : parities m < group_width m
  pub no_depth : m.width ≡ 0 → m.depth ≡ 0
  pub some_depth : (m.width ≡ 0 → ⊥) → 0 < m.depth
  pub short_depth : m.depth ≤ MAX_DEPTH
  pub algorithm : HasAlgorithm m
