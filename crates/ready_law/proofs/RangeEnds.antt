-- The range of a capability ends no more than a stripe unit behind the greatest size of a file.
use Rattle.std.proofs.Common.{◌≡◌, ◌==◌, ℕ, zero, suc, ◌+◌, ◌-◌, ◌*◌, ◌/◌, ◌%◌, ◌≤◌, ◌<◌, min, Bool, true, false, refl, sym, ap, ◌∙◌, arith, if◌then◌else◌}
use Rattle.std.proofs.lemmas.Bool.{ltb-true}
use Rattle.std.proofs.lemmas.Nat.{div-add-mod'}
use Rattle.std.proofs.Math.Nat.{add-mul, mul-le-mul_left, mul-le-mul_right, le-mul_of_pos_right}
use Rattle.data_map.specs.declared.check.RawMap.{RawMap}
use Rattle.data_map.specs.declared.ranges.TheConstants.{MAX_FILE_SIZE}
use Rattle.data_map.specs.Check.{IsChecked}
use Rattle.data_map.specs.Striping.{groups, data_units}
use Rattle.data_map.proofs.Shape.{some_groups, some_data}
use Rattle.server_rules.specs.declared.grants.Stripes.{Stripes}
use Rattle.server_rules.specs.Layouts.{capability_for}
use Rattle.server_rules.specs.Maps.{group_with, rows_below, stands_in, rows_in}
use Rattle.world_history.specs.ServerNames.{Kept, Component, Grant}
use Rattle.exchange_law.specs.Files.{GrantFits}

-- of a turn of n groups of depth d a group has at most what there is of it
turn_most : (d n c s : ℕ) → 0 < n → (s / (d * n)) * d + min (s % (d * n) - c) d ≤ s
turn_most d n c s some =
    let fewer : (s / (d * n)) * d ≤ (s / (d * n)) * (d * n) =
    mul-le-mul_left (s / (d * n)) (le-mul_of_pos_right {m = n} d some) in
    joined ((s / (d * n)) * d) ((s / (d * n)) * (d * n)) (s % (d * n)) fewer (div-add-mod' s (d * n))
  where
    joined : (a b r : ℕ) → a ≤ b → b + r ≡ s → a + min (r - c) d ≤ s
    joined a b r l e = omega (arith, l, e)

-- a group has no more rows than there are stripes
rows_most : (m : RawMap) (group s : ℕ) → IsChecked m → rows_below m group s ≤ s
unfolding rows_below
rows_most m group s k = either (m.width == 0)
  where
    either : (b : Bool) → (if b then s else s / (m.depth * groups m) * m.depth
        + min (s % (m.depth * groups m) - group * m.depth) m.depth) ≤ s
    either true = omega arith
    either false = turn_most m.depth (groups m) (group * m.depth) s (some_groups m k)

-- the rows of some stripes are in order, and end where these do at most
record AreWithin (end : ℕ) (r : Stripes) : Type 0 where
  order : r.first ≤ r.end
  end_is : r.end ≤ end

rows_within : (m : RawMap) (group first end : ℕ) → IsChecked m → AreWithin end (rows_in m group first end)
unfolding rows_in
rows_within m group first end k = either (stands_in m group first end) refl
  where
    either : (b : Bool) → stands_in m group first end ≡ b → AreWithin end (if b then record {
      first = rows_below m group first;
      end = rows_below m group end;
    } else record { first = 0; end = 0 })
    either true is =
        let less : rows_below m group first < rows_below m group end = ltb-true _ _ is in
        record { order = omega (arith, less); end_is = rows_most m group end k }
    either false is = record { order = omega arith; end_is = omega arith }

-- where so many stripes of n units end no more than a stripe behind a place, as many units end no more than a unit behind it
last_unit : (e n u most : ℕ) → 0 < n → e * (n * u) ≤ most + n * u → e * u ≤ most + u
last_unit zero n u most some l = omega arith
last_unit (suc j) n u most some l =
    let wide : j * u ≤ j * (n * u) = mul-le-mul_left j (omega (arith, le-mul_of_pos_right {m = n} u some)) in
    omega (arith, l, wide)

pub range_end : (file : ℕ) (f : Kept) (g : Grant) (at : Component) (k : ℕ) → IsChecked f.map → GrantFits file f.map g
    → (capability_for f g at k).range_start + (capability_for f g at k).range_len ≤ MAX_FILE_SIZE + f.map.unit
range_end file f g at k checked fits =
    let r : Stripes = rows_in f.map (group_with f.map k) g.first g.end in
    let w : AreWithin g.end r = rows_within f.map (group_with f.map k) g.first g.end checked in
    joined r.first r.end w.order w.end_is
    (last_unit g.end (data_units f.map) f.map.unit MAX_FILE_SIZE (some_data f.map checked) fits.end)
  where
    joined : (a b : ℕ) → a ≤ b → b ≤ g.end → g.end * f.map.unit ≤ MAX_FILE_SIZE + f.map.unit
        → a * f.map.unit + (b - a) * f.map.unit ≤ MAX_FILE_SIZE + f.map.unit
    joined a b order low most =
        let rest : a + (b - a) ≡ b = omega (arith, order) in
        let once : a * f.map.unit + (b - a) * f.map.unit ≡ b * f.map.unit =
        sym (add-mul a (b - a) f.map.unit) ∙ ap (λ (n : ℕ). n * f.map.unit) rest in
        let one : b * f.map.unit ≤ g.end * f.map.unit = mul-le-mul_right f.map.unit low in
        omega (arith, once, one, most)
