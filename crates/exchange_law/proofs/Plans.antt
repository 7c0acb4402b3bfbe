-- What a plan asks of a component lies in the row of one of the plan's stripes.
use Rattle.std.proofs.Common.{◌≡◌, ◌==◌, ◌≤◌, ◌<◌, ℕ, zero, suc, ◌+◌, ◌-◌, ◌*◌, ◌/◌, ◌%◌, min, nat_lt, nat_le, false, List, [], ◌∷◌, Option, Some, None, refl, ap, subst, ◌∙◌, inl, inr, arith}
use Rattle.std.specs.List.{AllByRecursion}
use Rattle.std.proofs.lemmas.Bool.{cases_Bool, cases_lt, lt-ltb, le-ltb}
use Rattle.std.proofs.lemmas.Nat.{div-mul-add, mod_below}
use Rattle.data_map.specs.declared.check.RawMap.{RawMap}
use Rattle.data_map.specs.Check.{IsChecked}
use Rattle.data_map.specs.Inverse.{unit_in}
use Rattle.data_map.specs.Striping.{replicas, positions, group_width, data_units, group_of, row_of}
use Rattle.data_map.proofs.Shape.{replicas_inside}
use Rattle.data_map.proofs.Striping.{group_inside}
use Rattle.server_rules.specs.Maps.{group_with}
use Rattle.stripe_plan.specs.declared.plan.Span.{Span}
use Rattle.stripe_plan.specs.declared.plan.Interval.{Interval}
use Rattle.stripe_plan.specs.declared.plan.Stretch.{Stretch}
use Rattle.stripe_plan.specs.declared.plan.Ask.{Ask}
use Rattle.stripe_plan.specs.declared.plan.Aim.{Aim}
use Rattle.stripe_plan.specs.declared.plan.Aim.TheVariants.{Reads, Gathers, Scatters}
use Rattle.stripe_plan.specs.Touched.{own, unit_start, end_of, touches, columns_between, columns, whole}
use Rattle.stripe_plan.specs.Lost.{among, source_from, source, is_hit, is_degraded}
use Rattle.stripe_plan.specs.Asks.{own_columns, changed, gathered, needed, at_row, at_rows, some_of, before, behind, without, without_each, asks_of, asks_source, asks_each, asks_position, asks_place, asks_stripe, asks}
use Rattle.exchange_law.proofs.PlaceLists.{all_wider, all_map, either_all}
use Rattle.exchange_law.proofs.Parts.{each_more}

-- ---- columns end in their unit

abbrev EndsBy : ℕ → Interval → Type 0
EndsBy unit i = i.end ≤ unit

between_end : (unit a b : ℕ) → 0 < unit → AllByRecursion (EndsBy unit) (columns_between unit a b)
unfolding columns_between
between_end unit a b some =
    let low : (b - 1) % unit + 1 ≤ unit = omega (arith, mod_below (b - 1) unit some) in
    either_all (EndsBy unit) (nat_le unit (b - a)) _ _ (omega arith, tt)
    (either_all (EndsBy unit) (nat_lt (a % unit) ((b - 1) % unit + 1)) _ _ (low, tt) (low, (omega arith, tt)))

columns_end : (m : RawMap) (r : Span) (s : ℕ) → IsChecked m → AllByRecursion (EndsBy m.unit) (columns m r s)
unfolding columns
columns_end m r s ch = between_end m.unit _ _ ch.some_unit

own_end : (m : RawMap) (r : Span) (s c : ℕ) → EndsBy m.unit (own m r s c)
unfolding own
own_end m r s c = least (end_of r) (unit_start m s c) m.unit
  where
    least : (e start unit : ℕ) → min e (start + unit) - start ≤ unit
    least e start unit = omega arith

own_columns_end : (m : RawMap) (r : Span) (s c : ℕ) → AllByRecursion (EndsBy m.unit) (own_columns m r s c)
unfolding own_columns
own_columns_end m r s c =
    either_all (EndsBy m.unit) (nat_lt c (data_units m)) _ _
    (either_all (EndsBy m.unit) (touches m r s c) _ _ (own_end m r s c, tt) tt) tt

changed_end : (m : RawMap) (r : Span) (s c : ℕ) → IsChecked m → AllByRecursion (EndsBy m.unit) (changed m r s c)
unfolding changed
changed_end m r s c ch =
    either_all (EndsBy m.unit) (nat_lt c (data_units m)) _ _ (own_columns_end m r s c) (columns_end m r s ch)

gathered_end : (m : RawMap) (r : Span) (out : List ℕ) (s c : ℕ) → IsChecked m
    → AllByRecursion (EndsBy m.unit) (gathered m r out s c)
unfolding gathered
gathered_end m r out s c ch =
    either_all (EndsBy m.unit) (whole m r s) _ _ tt
    (either_all (EndsBy m.unit) (is_degraded m out s) _ _ (columns_end m r s ch) (changed_end m r s c ch))

needed_end : (aim : Aim) (m : RawMap) (r : Span) (out : List ℕ) (s c : ℕ) → IsChecked m
    → AllByRecursion (EndsBy m.unit) (needed aim m r out s c)
needed_end Reads m r out s c ch =
    either_all (EndsBy m.unit) (is_hit m r out s) _ _ (columns_end m r s ch) (own_columns_end m r s c)
needed_end Gathers m r out s c ch = gathered_end m r out s c ch
needed_end Scatters m r out s c ch = changed_end m r s c ch

-- ---- as bytes of a component they lie in the stripe's row, whatever is had of them

abbrev IsWithin : (low high : ℕ) → Interval → Type 0
IsWithin low high i = (low ≤ i.first) × (i.end ≤ high)

abbrev IsPart : (low high : ℕ) → Interval → Type 0
IsPart low high i = (low ≤ i.first) × (i.first < i.end) × (i.end ≤ high)

rows_within : (m : RawMap) (s : ℕ) (is : List Interval) → AllByRecursion (EndsBy m.unit) is
    → AllByRecursion (IsWithin (row_of m s * m.unit) (row_of m s * m.unit + m.unit)) (at_rows m s is)
rows_within m s is k =
    all_map (at_row m s) (EndsBy m.unit) (IsWithin (row_of m s * m.unit) (row_of m s * m.unit + m.unit))
    (λ i e. (omega arith, omega (arith, e))) is k

some_part : (low high : ℕ) (i : Interval) → IsWithin low high i → AllByRecursion (IsPart low high) (some_of i)
some_part low high i k = elim (cases_lt i.first i.end) [
  | inl less ↦ rw (lt-ltb i.first i.end less) ((k.0, less, k.1), tt)
  | inr not ↦ rw (le-ltb i.first i.end not) tt
]

left_parts : (ts : List Stretch) (p low high : ℕ) (i : Interval) → IsWithin low high i
    → AllByRecursion (IsPart low high) (without ts p i)
unfolding without
left_parts [] p low high i k = some_part low high i k
left_parts (t ∷ ts) p low high i k =
    either_all (IsPart low high) (t.position == p) _ _
    (each_more (IsPart low high) (without ts p (before t i)) (without ts p (behind t i))
    (left_parts ts p low high (before t i) (k.0, omega (arith, k.1)))
    (left_parts ts p low high (behind t i) (omega (arith, k.0), k.1)))
    (left_parts ts p low high i k)

each_parts : (ts : List Stretch) (p low high : ℕ) (is : List Interval) → AllByRecursion (IsWithin low high) is
    → AllByRecursion (IsPart low high) (without_each ts p is)
unfolding without_each
each_parts ts p low high [] k = tt
each_parts ts p low high (i ∷ is) k =
    each_more (IsPart low high) (without ts p i) (without_each ts p is) (left_parts ts p low high i k.0)
    (each_parts ts p low high is k.1)

-- ---- components

-- a component of the stripe's group, which isn't out, is asked bytes of the stripe's row
pub record IsInRow (m : RawMap) (out : List ℕ) (s : ℕ) (a : Ask) : Type 0 where
  pub group : group_with m a.component ≡ group_of m s
  pub below : a.component < m.comps
  pub there : among a.component out ≡ false
  pub low : row_of m s * m.unit ≤ a.offset
  pub high : a.offset + a.length ≤ row_of m s * m.unit + m.unit

-- a component that holds a position of the stripe's group
record Stands (m : RawMap) (s k : ℕ) : Type 0 where
  group : group_with m k ≡ group_of m s
  below : k < m.comps

place_stands : (m : RawMap) (s i k : ℕ) → IsChecked m → i < group_width m
    → (group_of m s * group_width m + i) * replicas m ≤ k
    → k < (group_of m s * group_width m + i) * replicas m + replicas m → Stands m s k
place_stands m s i k ch low from to =
    let p : ℕ = group_of m s * group_width m + i in
    let digit : k ≡ p * replicas m + (k - p * replicas m) = omega (arith, from) in
    let position : k / replicas m ≡ p = ap (λ (n : ℕ). n / replicas m) digit
    ∙ div-mul-add p (replicas m) (k - p * replicas m) (omega (arith, from, to)) in
    let group : p / group_width m ≡ group_of m s = div-mul-add (group_of m s) (group_width m) i low in
    let inside : p < positions m = omega (arith, low, group_inside m s ch) in
    record {
      group = ap (λ (n : ℕ). n / group_width m) position ∙ group;
      below = omega (arith, to, replicas_inside m p ch inside);
    }

-- the first of some components that isn't out is one of them
pub source_found : (out : List ℕ) (k n j : ℕ) → source_from out k n ≡ Some j
    → (k ≤ j) × (j < k + n) × (among j out ≡ false)
unfolding source_from
source_found out k zero j e = absurd (cc e)
source_found out k (suc n) j e = elim (cases_Bool (among k out)) [
  | inl gone ↦ let rest = source_found out (k + 1) n j (rw gone at e) in
      (omega (arith, rest.0), omega (arith, rest.1), rest.2)
  | inr there ↦ let same : k ≡ j = cc (rw there at e) in
      (omega (arith, same), omega (arith, same), subst (λ (x : ℕ). among x out ≡ false) same there)
]

module _ (m : RawMap) (out : List ℕ) (s : ℕ) where
  abbrev Parts : List Interval → Type 0
  Parts is = AllByRecursion (IsPart (row_of m s * m.unit) (row_of m s * m.unit + m.unit)) is

  asks_of_in : (p k : ℕ) (is : List Interval) → Stands m s k → among k out ≡ false → Parts is
      → AllByRecursion (IsInRow m out s) (asks_of s p k is)
  asks_of_in p k is stands there parts =
      all_map (λ (i : Interval). record {
        stripe = s;
        position = p;
        component = k;
        offset = i.first;
        length = i.end - i.first;
      }) (IsPart (row_of m s * m.unit) (row_of m s * m.unit + m.unit)) (IsInRow m out s)
      (λ i part. record {
        group = stands.group;
        below = stands.below;
        there = there;
        low = part.0;
        high = omega (arith, part.1, part.2);
      }) is parts

  module _ (ch : IsChecked m) (i : ℕ) (low : i < group_width m) where
    abbrev place : ℕ
    place = group_of m s * group_width m + i

    source_in : (p : ℕ) (o : Option ℕ) (is : List Interval) → source m out place ≡ o → Parts is
        → AllByRecursion (IsInRow m out s) (asks_source s p o is)
    unfolding source
    source_in p None is from parts = tt
    source_in p (Some k) is from parts =
        let found = source_found out (place * replicas m) (replicas m) k from in
        asks_of_in p k is (place_stands m s i k ch low found.0 found.1) found.2 parts

    each_in : (p k n : ℕ) (is : List Interval) → place * replicas m ≤ k → k + n ≤ place * replicas m + replicas m
        → Parts is → AllByRecursion (IsInRow m out s) (asks_each out s p k n is)
    unfolding asks_each
    each_in p k zero is from to parts = tt
    each_in p k (suc n) is from to parts =
        let rest = each_in p (k + 1) n is (omega (arith, from)) (omega (arith, to)) parts in
        elim (cases_Bool (among k out)) [
          | inl gone ↦ rw gone rest
          | inr there ↦ rw there (each_more (IsInRow m out s) (asks_of s p k is) (asks_each out s p (k + 1) n is)
              (asks_of_in p k is (place_stands m s i k ch low from (omega (arith, to))) there parts) rest)
        ]

    position_in : (aim : Aim) (is : List Interval) → Parts is
        → AllByRecursion (IsInRow m out s) (asks_position aim m out s place is)
    position_in Reads is parts = source_in place (source m out place) is refl parts
    position_in Gathers is parts = source_in place (source m out place) is refl parts
    position_in Scatters is parts =
        each_in place (place * replicas m) (replicas m) is (omega arith) (omega arith) parts

    place_in : (aim : Aim) (r : Span) (had : List Stretch)
        → AllByRecursion (IsInRow m out s) (asks_place aim m r out had s i)
    unfolding asks_place
    place_in aim r had =
        position_in aim _ (each_parts had place _ _ _ (rows_within m s (needed aim m r out s (unit_in m s i))
        (needed_end aim m r out s (unit_in m s i) ch)))

  stripe_in : (aim : Aim) (r : Span) (had : List Stretch) (i n : ℕ) → IsChecked m → i + n ≤ group_width m
      → AllByRecursion (IsInRow m out s) (asks_stripe aim m r out had s i n)
  unfolding asks_stripe
  stripe_in aim r had i zero ch l = tt
  stripe_in aim r had i (suc n) ch l =
      each_more (IsInRow m out s) (asks_place aim m r out had s i) (asks_stripe aim m r out had s (i + 1) n)
      (place_in ch i (omega (arith, l)) aim r had) (stripe_in aim r had (i + 1) n ch (omega (arith, l)))

-- so is all that a plan asks, of one of its stripes
abbrev pub IsAsked : RawMap → List ℕ → (ℕ → Type 0) → Ask → Type 0
IsAsked m out P a = (s : ℕ) × P s × IsInRow m out s a

pub asks_in : (P : ℕ → Type 0) (aim : Aim) (m : RawMap) (r : Span) (out : List ℕ) (had : List Stretch) (ss : List ℕ)
    → IsChecked m → AllByRecursion P ss → AllByRecursion (IsAsked m out P) (asks aim m r out had ss)
unfolding asks
asks_in P aim m r out had [] ch k = tt
asks_in P aim m r out had (s ∷ ss) ch k =
    each_more (IsAsked m out P) (asks_stripe aim m r out had s 0 (group_width m)) (asks aim m r out had ss)
    (all_wider (IsInRow m out s) (IsAsked m out P) (λ a row. (s, k.0, row)) _
    (stripe_in m out s aim r had 0 (group_width m) ch (omega arith)))
    (asks_in P aim m r out had ss ch k.1)
