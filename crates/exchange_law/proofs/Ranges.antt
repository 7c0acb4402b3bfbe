-- The numbers of a grant's layout and capabilities fit their places.
use Rattle.std.proofs.Common.{◌≡◌, ◌==◌, ℕ, ◌+◌, ◌-◌, ◌*◌, ◌/◌, ◌%◌, ◌^◌, ◌≤◌, ◌<◌, Bool, true, false, min, refl, arith, if◌then◌else◌}
use Rattle.std.proofs.lemmas.Bool.Decides.{nat_tests}
use Rattle.std.proofs.lemmas.Nat.{mul-le}
use Rattle.std.proofs.Math.Nat.{le-mul_of_pos_right, mul-le-mul_right}
use Rattle.data_map.specs.declared.check.RawMap.{RawMap}
use Rattle.data_map.specs.declared.ranges.TheConstants.{MAX_FILE_SIZE}
use Rattle.data_map.specs.Check.{IsChecked}
use Rattle.data_map.specs.Striping.{positions, replicas, groups, data_units, stripe_length}
use Rattle.data_map.proofs.Shape.{whole_positions, some_positions, some_stripe}
use Rattle.data_map.proofs.Numbers.{row_most}
use Rattle.layout_types.specs.Spelling.{MapFits}
use Rattle.osd_capability.specs.Layout as capabilities
use Rattle.server_rules.specs.declared.limits.TheConstants.{WRITE_RIGHTS, READ_RIGHTS}
use Rattle.world_history.specs.ServerNames.{Kept, Component, Grant}
use Rattle.server_rules.specs.declared.grants.Stripes.{Stripes}
use Rattle.server_rules.specs.Maps.{group_with, rows_below, stands_in, rows_in}
use Rattle.server_rules.specs.Layouts.{capability_for}
use Rattle.exchange_law.specs.Files.{ComponentFits, GrantFits, KeptFits}

-- ---- maps

narrow : (m : RawMap) → IsChecked m → m.width < 2 ^ 32
narrow m k = either (m.width == 0) refl k.narrow
  where
    either : (b : Bool) → (m.width == 0) ≡ b → (if b then positions m else m.width) ≤ 64 → m.width < 2 ^ 32
    either true is l = grind (arith, is, nat_tests)
    either false is l = omega (arith, l)

few_mirrors : (m : RawMap) → IsChecked m → m.mirrors < 2 ^ 32
few_mirrors m k =
    let whole : positions m * replicas m ≡ m.comps = whole_positions m k in
    let some : 1 ≤ positions m = omega (arith, some_positions m k) in
    let once : 1 * replicas m ≤ positions m * replicas m = mul-le-mul_right (replicas m) some in
    small (positions m * replicas m) m.mirrors m.comps whole once k.few_components
  where
    small : (all mirrors comps : ℕ) → all ≡ comps → 1 * (mirrors + 1) ≤ all → comps ≤ 1024 → mirrors < 2 ^ 32
    small all mirrors comps e l few = omega (arith, e, l, few)

pub map_fits : (m : RawMap) → IsChecked m → MapFits m
map_fits m k = record {
  comps = omega (arith, k.few_components);
  unit = omega (arith, k.short_unit);
  width = narrow m k;
  depth = omega (arith, k.short_depth);
  mirrors = few_mirrors m k;
  algorithm = k.algorithm;
}

-- ---- rows

few_units : (m : RawMap) → IsChecked m → data_units m ≤ 64
few_units m k = omega (arith, k.narrow)

-- a stripe is no longer than so
pub short_stripe : (m : RawMap) → IsChecked m → stripe_length m ≤ 67108864
short_stripe m k = most (data_units m) m.unit (few_units m k) k.short_unit
  where
    most : (a b : ℕ) → a ≤ 64 → b ≤ 1048576 → a * b ≤ 67108864
    most a b x y = omega (arith, mul-le a b 64 1048576 x y)

rows_most : (m : RawMap) (group s : ℕ) → IsChecked m → rows_below m group s ≤ s + 1048576
unfolding rows_below
rows_most m group s k = either (m.width == 0)
  where
    joined : (a b c : ℕ) → a + b ≤ s → m.depth ≤ 1048576 → a + min c m.depth ≤ s + 1048576
    joined a b c x y = omega (arith, x, y)

    either : (b : Bool) → (if b then s else s / (m.depth * groups m) * m.depth
        + min (s % (m.depth * groups m) - group * m.depth) m.depth) ≤ s + 1048576
    either true = omega arith
    either false = joined (s / (m.depth * groups m) * m.depth) (s % m.depth)
        (s % (m.depth * groups m) - group * m.depth) (row_most m.depth (groups m) s) k.short_depth

-- the stripes of a grant
few_stripes : (s stripe most : ℕ) → 0 < stripe → s * stripe ≤ most → s ≤ most
few_stripes s stripe most some l = omega (arith, l, le-mul_of_pos_right {m = stripe} s some)

-- a product of rows and the unit is small
small_range : (rows unit : ℕ) → rows ≤ 134217728 → unit ≤ 1048576 → rows * unit < 2 ^ 64
small_range rows unit x y = omega (arith, mul-le rows unit 134217728 1048576 x y)

record RowsFit (r : Stripes) : Type 0 where
  first : r.first ≤ 134217728
  end : r.end ≤ 134217728

rows_fit : (m : RawMap) (group : ℕ) (g : Grant) (file : ℕ) → IsChecked m → GrantFits file m g
    → RowsFit (rows_in m group g.first g.end)
unfolding rows_in
rows_fit m group g file k f = either (stands_in m group g.first g.end)
  where
    first : rows_below m group g.first ≤ 134217728
    first =
        let few : g.first ≤ MAX_FILE_SIZE = few_stripes g.first (stripe_length m) MAX_FILE_SIZE (some_stripe m k) f.first
        in
        omega (arith, few, rows_most m group g.first k)

    end : rows_below m group g.end ≤ 134217728
    end =
        let few : g.end ≤ MAX_FILE_SIZE + stripe_length m =
        few_stripes g.end (stripe_length m) (MAX_FILE_SIZE + stripe_length m) (some_stripe m k) f.end in
        omega (arith, few, short_stripe m k, rows_most m group g.end k)

    either : (b : Bool) → RowsFit (if b then record {
      first = rows_below m group g.first;
      end = rows_below m group
          g.end;
    } else record { first = 0; end = 0 })
    either true = record { first = first; end = end }
    either false = record { first = omega arith; end = omega arith }

-- ---- the capability of a component

rights_fit : (b : Bool) → (if b then WRITE_RIGHTS else READ_RIGHTS) < 2 ^ 32
rights_fit true = omega arith
rights_fit false = omega arith

pub capability_fits : (n : ℕ) (f : Kept) (g : Grant) (at : Component) (k : ℕ) → n ≤ 2 ^ 63 → KeptFits n f
    → GrantFits f.number f.map g → ComponentFits n at → capabilities.Fits (capability_for f g at k)
capability_fits n f g at k l kept grant part =
    let rows = rows_fit f.map (group_with f.map k) g f.number kept.map grant in
    record {
      format = kept.format;
      key_version = omega arith;
      rights = rights_fit g.rw;
      expiry = omega (arith, grant.expiry);
      grant = omega (arith, grant.number);
      holder = omega (arith, grant.client);
      tag = omega (arith, kept.tag);
      partition = omega (arith, part.drive);
      object = omega (arith, part.object, l);
      range_start = small_range _ f.map.unit rows.first kept.map.short_unit;
      range_len = small_range _ f.map.unit (omega (arith, rows.end)) kept.map.short_unit;
    }
