-- Where in a stripe's unit the intervals that a plan asks can begin: at one of four columns.
use Rattle.std.proofs.Common.{◌≡◌, ◌⊎◌, ◌≤◌, ◌<◌, ℕ, ◌+◌, ◌-◌, ◌*◌, ◌%◌, true, List, [], ◌∷◌, length, map, subst, inl, inr, arith}
use Rattle.std.specs.Prelude.{min, max, nat_lt, nat_le}
use Rattle.std.proofs.lemmas.Bool.{cases_Bool, cases_lt, lt-ltb, le-ltb, le-leb, lt-leb, ltb-true}
use Rattle.std.proofs.lemmas.List.{length-map}
use Rattle.std.proofs.lemmas.Nat.{mod_below, mod-mul-add}
use Rattle.data_map.specs.declared.check.RawMap.{RawMap}
use Rattle.data_map.specs.Check.{IsChecked}
use Rattle.data_map.specs.Striping.{data_units, stripe_length}
use Rattle.data_map.proofs.Numbers.{two_digits}
use Rattle.stripe_plan.specs.declared.plan.Span.{Span}
use Rattle.stripe_plan.specs.declared.plan.Interval.{Interval}
use Rattle.stripe_plan.specs.declared.plan.Aim.{Aim}
use Rattle.stripe_plan.specs.declared.plan.Aim.TheVariants.{Reads, Gathers, Scatters}
use Rattle.stripe_plan.specs.Touched.{end_of, own, unit_start, touches, low, high, columns, columns_between, whole}
use Rattle.stripe_plan.specs.Lost.{is_hit, is_degraded}
use Rattle.stripe_plan.specs.Asks.{own_columns, changed, gathered, needed}
use Rattle.stripe_plan.specs.Laws.{IsWithin}
use Rattle.stripe_plan.proofs.Covering.{covered}
use Rattle.server_rules.specs.Laws.{In}
use Rattle.load_law.proofs.Lists.{by_test}

-- the first columns of the touched intervals, and those of the range's own bytes with the one behind them
abbrev pub starts : RawMap → Span → (s c : ℕ) → List ℕ
starts m r s c = (own m r s c).first ∷ (own m r s c).end ∷ map (λ (i : Interval). i.first) (columns m r s)

-- one of these, or the end of touched columns
abbrev pub IsEdge : RawMap → Span → (s c : ℕ) → (e : ℕ) → Type 0
IsEdge m r s c e = In e (starts m r s c) ⊎ In e (map (λ (i : Interval). i.end) (columns m r s))

-- intervals in order from a column on, up to the unit's end, none of them backwards
abbrev pub AreInOrder : (unit from : ℕ) → List Interval → Type 0
AreInOrder unit from [] = Unit {0}
AreInOrder unit from (i ∷ is) = (from ≤ i.first) × (i.first ≤ i.end) × (i.end ≤ unit) × AreInOrder unit i.end is

few_between : (unit a b : ℕ) → length (columns_between unit a b) ≤ 2
unfolding columns_between
few_between unit a b =
    by_test (λ (is : List Interval). length is ≤ 2) (nat_le unit (b - a)) _ _ (omega arith)
    (by_test (λ (is : List Interval). length is ≤ 2) (nat_lt (a % unit) ((b - 1) % unit + 1)) _ _ (omega arith) (omega arith))

pub few_columns : (m : RawMap) (r : Span) (s : ℕ) → length (columns m r s) ≤ 2
unfolding columns
few_columns m r s = few_between m.unit (low m r s) (high m r s)

pub few_starts : (m : RawMap) (r : Span) (s c : ℕ) → length (starts m r s c) ≤ 4
few_starts m r s c = omega (arith, length-map (columns m r s) (λ (i : Interval). i.first), few_columns m r s)

between_in_order : (unit a b : ℕ) → 0 < unit → AreInOrder unit 0 (columns_between unit a b)
unfolding columns_between
between_in_order unit a b some =
    let front : a % unit ≤ unit = omega (arith, mod_below a unit some) in
    let back : (b - 1) % unit + 1 ≤ unit = omega (arith, mod_below (b - 1) unit some) in
    elim (cases_lt (b - a) unit) [
      | inl short ↦ elim (cases_lt (a % unit) ((b - 1) % unit + 1)) [
        | inl inside ↦ rw (lt-leb unit (b - a) short, lt-ltb (a % unit) ((b - 1) % unit + 1) inside)
            (omega arith, omega (arith, inside), back, tt)
        | inr round ↦ rw (lt-leb unit (b - a) short, le-ltb (a % unit) ((b - 1) % unit + 1) round)
            (omega arith, omega arith, back, (round, front, omega arith, tt))
      ]
      | inr long ↦ rw (le-leb unit (b - a) long) (omega arith, omega arith, omega arith, tt)
    ]

pub columns_in_order : (m : RawMap) (r : Span) (s : ℕ) → IsChecked m → AreInOrder m.unit 0 (columns m r s)
unfolding columns
columns_in_order m r s ch = between_in_order m.unit (low m r s) (high m r s) ch.some_unit

own_end : (e start unit : ℕ) → min e (start + unit) - start ≤ unit
own_end e start unit = omega arith

pub own_in_order : (m : RawMap) (r : Span) (s c : ℕ) → touches m r s c ≡ true → AreInOrder m.unit 0 (own m r s c ∷ [])
unfolding own touches
own_in_order m r s c t =
    let less : (own m r s c).first < (own m r s c).end = ltb-true (own m r s c).first (own m r s c).end t in
    (omega arith, omega (arith, less), own_end (end_of r) (unit_start m s c) m.unit, tt)

-- touched columns end at a touched column only where others begin
end_begins : (unit a b e : ℕ) → 0 < unit → In e (map (λ (i : Interval). i.end) (columns_between unit a b))
    → IsWithin e (columns_between unit a b) → In e (map (λ (i : Interval). i.first) (columns_between unit a b))
unfolding columns_between
end_begins unit a b e some i w =
    let front : a % unit < unit = mod_below a unit some in
    let back : (b - 1) % unit < unit = mod_below (b - 1) unit some in
    elim (cases_lt (b - a) unit) [
      | inl short ↦ elim (cases_lt (a % unit) ((b - 1) % unit + 1)) [
        | inl inside ↦ absurd (one (a % unit) ((b - 1) % unit + 1)
            (rw (lt-leb unit (b - a) short, lt-ltb (a % unit) ((b - 1) % unit + 1) inside) at i)
            (rw (lt-leb unit (b - a) short, lt-ltb (a % unit) ((b - 1) % unit + 1) inside) at w))
        | inr round ↦ rw (lt-leb unit (b - a) short, le-ltb (a % unit) ((b - 1) % unit + 1) round)
            (two ((b - 1) % unit + 1) (a % unit) round (omega (arith, back))
            (rw (lt-leb unit (b - a) short, le-ltb (a % unit) ((b - 1) % unit + 1) round) at i)
            (rw (lt-leb unit (b - a) short, le-ltb (a % unit) ((b - 1) % unit + 1) round) at w))
      ]
      | inr long ↦ absurd (one 0 unit (rw (le-leb unit (b - a) long) at i) (rw (le-leb unit (b - a) long) at w))
    ]
  where
    one : (f l : ℕ) → In e (l ∷ []) → IsWithin e (record { first = f; end = l } ∷ []) → ⊥
    one f l (inl same) (inl x) = omega (arith, same, x.1)
    one f l (inl same) (inr x) = absurd x
    one f l (inr j) x = absurd j

    two : (l f : ℕ) → l ≤ f → l ≤ unit → In e (l ∷ unit ∷ [])
        → IsWithin e (record { first = 0; end = l } ∷ record { first = f; end = unit } ∷ []) → In e (0 ∷ f ∷ [])
    two l f le short (inl same) (inl x) = absurd (omega (arith, same, x.1))
    two l f le short (inl same) (inr (inl x)) = inr (inl (omega (arith, same, x.0, le)))
    two l f le short (inr (inl same)) (inl x) = absurd (omega (arith, same, x.1, short))
    two l f le short (inr (inl same)) (inr (inl x)) = absurd (omega (arith, same, x.1))
    two l f le short (inr (inr j)) x = absurd j
    two l f le short j (inr (inr x)) = absurd x

-- so an edge that is a touched column is one of the four
pub edge_starts : (m : RawMap) (r : Span) (s c e : ℕ) → IsChecked m → IsEdge m r s c e → IsWithin e (columns m r s)
    → In e (starts m r s c)
unfolding columns
edge_starts m r s c e ch (inl i) w = i
edge_starts m r s c e ch (inr i) w = inr (inr (end_begins m.unit (low m r s) (high m r s) e ch.some_unit i w))

-- the range's own columns of a unit are touched
pub own_within : (m : RawMap) (r : Span) (s c e : ℕ) → IsChecked m → c < data_units m → (own m r s c).first ≤ e
    → e < (own m r s c).end → IsWithin e (columns m r s)
unfolding own columns
own_within m r s c e ch less from to =
    let short : e < m.unit = omega (arith, to, own_end (end_of r) (unit_start m s c) m.unit) in
    let inside : c * m.unit + e < stripe_length m = two_digits m.unit (data_units m) c e less short in
    let next : (s + 1) * stripe_length m ≡ s * stripe_length m + stripe_length m = omega arith in
    subst (λ (x : ℕ). IsWithin x (columns_between m.unit (low m r s) (high m r s))) (mod-mul-add c m.unit e short)
    (covered m.unit (low m r s) (high m r s) (c * m.unit + e) ch.some_unit
    (above r.offset (s * stripe_length m) (c * m.unit) from)
    (below (end_of r) (s * stripe_length m) (c * m.unit) m.unit (stripe_length m) ((s + 1) * stripe_length m) to inside next))
  where
    above : (offset base skip : ℕ) → max offset (base + skip) - (base + skip) ≤ e → max offset base - base ≤ skip + e
    above offset base skip l = omega (arith, l)

    below : (end base skip unit long top : ℕ) → e < min end (base + skip + unit) - (base + skip) → skip + e < long
        → top ≡ base + long → skip + e < min end top - base
    below end base skip unit long top l m is = omega (arith, l, m, is)

-- what a plan needs of a unit is nothing, the range's own columns, or all that are touched
module _ (P : List Interval → Type 0) (m : RawMap) (r : Span) (out : List ℕ) (s c : ℕ) (none : P [])
    (its : c < data_units m → touches m r s c ≡ true → P (own m r s c ∷ [])) (all : P (columns m r s)) where
  own_is : P (own_columns m r s c)
  unfolding own_columns
  own_is = elim (cases_lt c (data_units m)) [
    | inl less ↦ elim (cases_Bool (touches m r s c)) [
      | inl t ↦ rw (lt-ltb c (data_units m) less, t) (its less t)
      | inr f ↦ rw (lt-ltb c (data_units m) less, f) none
    ]
    | inr past ↦ rw (le-ltb c (data_units m) past) none
  ]

  changed_is : P (changed m r s c)
  unfolding changed
  changed_is = by_test P (nat_lt c (data_units m)) _ _ own_is all

  gathered_is : P (gathered m r out s c)
  unfolding gathered
  gathered_is = by_test P (whole m r s) _ _ none (by_test P (is_degraded m out s) _ _ all changed_is)

  pub needed_is : (aim : Aim) → P (needed aim m r out s c)
  needed_is Reads = by_test P (is_hit m r out s) _ _ all own_is
  needed_is Gathers = gathered_is
  needed_is Scatters = changed_is
