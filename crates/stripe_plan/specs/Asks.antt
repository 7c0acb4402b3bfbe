-- What a plan asks of which components: stripe by stripe, component by component, offsets rising.
use Rattle.std.specs.Prelude.{ℕ, zero, suc, ◌+◌, ◌-◌, ◌*◌, ◌==◌, nat_lt, min, max, if◌then◌else◌}
use Rattle.std.specs.Prelude.{List, [], ◌∷◌, ◌++◌, map, Option, Some, None}
use Rattle.data_map.specs.declared.check.RawMap.{RawMap}
use Rattle.data_map.specs.Striping.{replicas, group_width, data_units, group_of, offset_of}
use Rattle.data_map.specs.Inverse.{unit_in}
use Rattle.stripe_plan.specs.declared.plan.Span.{Span}
use Rattle.stripe_plan.specs.declared.plan.Interval.{Interval}
use Rattle.stripe_plan.specs.declared.plan.Stretch.{Stretch}
use Rattle.stripe_plan.specs.declared.plan.Ask.{Ask}
use Rattle.stripe_plan.specs.declared.plan.Aim.{Aim}
use Rattle.stripe_plan.specs.declared.plan.Aim.TheVariants.{Reads, Gathers, Scatters}
use Rattle.stripe_plan.specs.Touched.{own, touches, columns, whole}
use Rattle.stripe_plan.specs.Lost.{among, source, is_hit, is_degraded}

-- the range's own columns of unit c, which are none in a unit of parity
unfoldable pub own_columns : RawMap → Span → (s c : ℕ) → List Interval
own_columns m r s c = if nat_lt c (data_units m) then (if touches m r s c then own m r s c ∷ [] else []) else []

-- a change of data touches its own columns and all touched columns of the parity
unfoldable pub changed : RawMap → Span → (s c : ℕ) → List Interval
changed m r s c = if nat_lt c (data_units m) then own_columns m r s c else columns m r s

-- a gather leaves whole stripes, and reads all positions where one is out
unfoldable pub gathered : RawMap → Span → List ℕ → (s c : ℕ) → List Interval
gathered m r out s c = if whole m r s then [] else if is_degraded m out s then columns m r s else changed m r s c

-- the columns of unit c of stripe s that a plan needs, with these components out
abbrev pub needed : Aim → RawMap → Span → List ℕ → (s c : ℕ) → List Interval
needed Reads m r out s c = if is_hit m r out s then columns m r s else own_columns m r s c
needed Gathers m r out s c = gathered m r out s c
needed Scatters m r out s c = changed m r s c

-- columns of stripe s as bytes of a component
abbrev pub at_row : RawMap → (s : ℕ) → Interval → Interval
at_row m s i = record { first = offset_of m s i.first; end = offset_of m s i.end }

abbrev pub at_rows : RawMap → (s : ℕ) → List Interval → List Interval
at_rows m s is = map (at_row m s) is

-- an interval, if it has bytes
abbrev pub some_of : Interval → List Interval
some_of i = if nat_lt i.first i.end then i ∷ [] else []

-- the bytes of an interval before a stretch and behind it
abbrev pub before : Stretch → Interval → Interval
before t i = record { first = i.first; end = min i.end t.first }

abbrev pub behind : Stretch → Interval → Interval
behind t i = record { first = max i.first t.end; end = i.end }

abbrev pub cut : Stretch → Interval → List Interval
cut t i = some_of (before t i) ++ some_of (behind t i)

-- the bytes of a position that aren't had yet
unfoldable pub without : List Stretch → (p : ℕ) → Interval → List Interval
without [] p i = some_of i
without (t ∷ ts) p i =
    if t.position == p then without ts p (before t i) ++ without ts p (behind t i) else without ts p i

-- of each of these bytes
unfoldable pub without_each : List Stretch → (p : ℕ) → List Interval → List Interval
without_each had p [] = []
without_each had p (i ∷ is) = without had p i ++ without_each had p is

-- these bytes of component k, which stands at position p
abbrev pub asks_of : (s p k : ℕ) → List Interval → List Ask
asks_of s p k is =
    map (λ (i : Interval). record {
      stripe = s;
      position = p;
      component = k;
      offset = i.first;
      length = i.end - i.first;
    }) is

-- and none of a position that is out
abbrev pub asks_source : (s p : ℕ) → Option ℕ → List Interval → List Ask
asks_source s p None is = []
asks_source s p (Some k) is = asks_of s p k is

-- the same bytes of each of n components from k on that isn't out
unfoldable pub asks_each : List ℕ → (s p k n : ℕ) → List Interval → List Ask
asks_each out s p k zero is = []
asks_each out s p k (suc n) is =
    if among k out then asks_each out s p (k + 1) n is else asks_of s p k is ++ asks_each out s p (k + 1) n is

-- a plan reads one replica of a position and writes all
abbrev pub asks_position : Aim → RawMap → List ℕ → (s p : ℕ) → List Interval → List Ask
asks_position Reads m out s p is = asks_source s p (source m out p) is
asks_position Gathers m out s p is = asks_source s p (source m out p) is
asks_position Scatters m out s p is = asks_each out s p (p * replicas m) (replicas m) is

-- what is still to be asked of place i of a stripe's group
unfoldable pub asks_place : Aim → RawMap → Span → List ℕ → List Stretch → (s i : ℕ) → List Ask
asks_place aim m r out had s i =
    asks_position aim m out s (group_of m s * group_width m + i)
    (without_each had (group_of m s * group_width m + i) (at_rows m s (needed aim m r out s (unit_in m s i))))

-- of n places from i on
unfoldable pub asks_stripe : Aim → RawMap → Span → List ℕ → List Stretch → (s i n : ℕ) → List Ask
asks_stripe aim m r out had s i zero = []
asks_stripe aim m r out had s i (suc n) = asks_place aim m r out had s i ++ asks_stripe aim m r out had s (i + 1) n

-- of the stripes
unfoldable pub asks : Aim → RawMap → Span → List ℕ → List Stretch → List ℕ → List Ask
asks aim m r out had [] = []
asks aim m r out had (s ∷ ss) = asks_stripe aim m r out had s 0 (group_width m) ++ asks aim m r out had ss
