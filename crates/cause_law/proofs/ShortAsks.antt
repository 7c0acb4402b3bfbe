-- A plan asks no more bytes of a component at a time than its range has.
use Rattle.std.proofs.Common.{◌≡◌, ◌⊎◌, ◌≤◌, ◌<◌, ℕ, zero, suc, ◌+◌, ◌-◌, ◌*◌, ◌/◌, ◌%◌, ◌==◌, nat_lt, nat_le, false, min, max, List, [], ◌∷◌, Option, Some, None, arith, inl, inr}
use Rattle.std.specs.List.{AllByRecursion}
use Rattle.std.proofs.lemmas.Bool.{cases_Bool, cases_eq, cases_lt, eq-eqb, ne_eqb, leb-true, ltb-false}
use Rattle.std.proofs.lemmas.Nat.{div-add-mod', mod_below}
use Rattle.std.proofs.Math.Nat.{mul-le-mul_right, div-mul-le_self}
use Rattle.data_map.specs.declared.check.RawMap.{RawMap}
use Rattle.data_map.specs.Check.{IsChecked}
use Rattle.data_map.specs.Inverse.{unit_in}
use Rattle.data_map.specs.Striping.{replicas, group_width, data_units, group_of, row_of, stripe_of, stripe_length}
use Rattle.data_map.proofs.Covering.{div_mono}
use Rattle.data_map.proofs.Shape.{some_stripe}
use Rattle.stripe_plan.specs.declared.plan.Aim.{Aim}
use Rattle.stripe_plan.specs.declared.plan.Aim.TheVariants.{Reads, Gathers, Scatters}
use Rattle.stripe_plan.specs.declared.plan.Ask.{Ask}
use Rattle.stripe_plan.specs.declared.plan.Interval.{Interval}
use Rattle.stripe_plan.specs.declared.plan.Span.{Span}
use Rattle.stripe_plan.specs.declared.plan.Stretch.{Stretch}
use Rattle.stripe_plan.specs.Asks.{own_columns, changed, gathered, needed, at_row, at_rows, some_of, before, behind, without, without_each, asks_of, asks_source, asks_each, asks_position, asks_place, asks_stripe, asks}
use Rattle.stripe_plan.specs.Lost.{among, source, is_hit, is_degraded}
use Rattle.stripe_plan.specs.Touched.{end_of, stripes, own, touches, unit_start, low, high, columns_between, columns, whole}
use Rattle.exchange_law.proofs.Parts.{each_more}
use Rattle.exchange_law.proofs.PlaceLists.{all_wider, all_map, either_all, all_between}

-- ---- intervals

-- an interval has at most n bytes
abbrev IsShort : (n : ℕ) → Interval → Type 0
IsShort n i = i.end - i.first ≤ n

abbrev AreShort : (n : ℕ) → List Interval → Type 0
AreShort n is = AllByRecursion (IsShort n) is

own_short : (m : RawMap) (r : Span) (s c : ℕ) → IsShort r.length (own m r s c)
unfolding own
own_short m r s c = inside r.offset r.length (unit_start m s c) m.unit
  where
    inside : (off len us u : ℕ) → (min (off + len) (us + u) - us) - (max off us - us) ≤ len
    inside off len us u = omega arith

own_columns_short : (m : RawMap) (r : Span) (s c : ℕ) → AreShort r.length (own_columns m r s c)
unfolding own_columns
own_columns_short m r s c =
    either_all (IsShort r.length) (nat_lt c (data_units m)) _ [] (either_all (IsShort r.length) (touches m r s c) _ []
    (own_short m r s c, tt) tt) tt

-- ---- the columns of some bytes of a stripe

-- bytes a to b are in the same unit, or b's is a later one
between_short : (u a b n : ℕ) → 0 < u → a < b → b - a ≤ n → AreShort n (columns_between u a b)
unfolding columns_between
between_short u a b n some less few = elim (cases_Bool (nat_le u (b - a))) [
  | inl all ↦ rw all (omega (arith, leb-true u (b - a) all, few), tt)
  | inr part ↦ rw part (elim (cases_Bool (nat_lt (a % u) ((b - 1) % u + 1))) [
    | inl one ↦ rw one (
      in_one a b n (a / u * u) ((b - 1) / u * u) (a % u) ((b - 1) % u) (div-add-mod' a u) (div-add-mod' (b - 1) u)
          (mul-le-mul_right u (div_mono a (b - 1) u some (omega (arith, less)))) less few,
      tt,
    )
    | inr two ↦ rw two (wraps (cases_lt (a / u) ((b - 1) / u)) two)
  ])
]
  where
    in_one : (a b n x y r s : ℕ) → x + r ≡ a → y + s ≡ b - 1 → x ≤ y → a < b → b - a ≤ n → (s + 1) - r ≤ n
    in_one a b n x y r s e f le less few = omega (arith, e, f, le, less, few)

    past : (r s : ℕ) → nat_lt r (s + 1) ≡ false → s < r
    past r s e = omega (arith, ltb-false r (s + 1) e)

    next : (q p : ℕ) → q < p → q * u + u ≤ p * u
    next q p l =
        let more : q + 1 ≤ p = omega (arith, l) in
        let one : (q + 1) * u ≡ q * u + u = omega arith in
        omega (arith, one, mul-le-mul_right u more)

    in_two : (x y r s : ℕ) → x + r ≡ a → y + s ≡ b - 1 → x + u ≤ y → r < u → (s + 1 ≤ n) × (u - r ≤ n)
    in_two x y r s e f le l = (omega (arith, e, f, le, l, less, few), omega (arith, e, f, le, l, less, few))

    wraps : (a / u < (b - 1) / u) ⊎ ((b - 1) / u ≤ a / u) → nat_lt (a % u) ((b - 1) % u + 1) ≡ false
        → AreShort n (record { first = 0; end = (b - 1) % u + 1 } ∷ record { first = a % u; end = u } ∷ [])
    wraps (inl later) two =
        let k = in_two (a / u * u) ((b - 1) / u * u) (a % u) ((b - 1) % u) (div-add-mod' a u) (div-add-mod' (b - 1) u)
        (next (a / u) ((b - 1) / u) later) (mod_below a u some) in (omega (arith, k.0), (omega (arith, k.1), tt))
    wraps (inr same) two =
        let back : (b - 1) / u * u ≤ a / u * u = mul-le-mul_right u same in
        absurd (omega (arith, back, div-add-mod' a u, div-add-mod' (b - 1) u, past (a % u) ((b - 1) % u) two, less))

-- a stripe that the range touches
abbrev IsTouched : RawMap → Span → (s : ℕ) → Type 0
IsTouched m r s = (stripe_of m r.offset ≤ s) × (s ≤ stripe_of m (end_of r - 1)) × (0 < r.length)

columns_short : (m : RawMap) (r : Span) (s : ℕ) → IsChecked m → IsTouched m r s → AreShort r.length (columns m r s)
unfolding columns
columns_short m r s ch t =
    let L : ℕ = stripe_length m in
    let begun : s * L ≤ end_of r - 1 = begins (end_of r - 1) t.1 in
    let next : r.offset < (s + 1) * L = ends in
    let one : (s + 1) * L ≡ s * L + L = omega arith in
    let some : 0 < L = some_stripe m ch in
    between_short m.unit (low m r s) (high m r s) r.length ch.some_unit
    (apart r.offset r.length (s * L) L ((s + 1) * L) one next begun some t.2)
    (within r.offset r.length (s * L) L ((s + 1) * L) one)
  where
    begins : (e : ℕ) → s ≤ e / stripe_length m → s * stripe_length m ≤ e
    begins e le = omega (arith, mul-le-mul_right (stripe_length m) le, div-mul-le_self e (stripe_length m))

    ends : r.offset < (s + 1) * stripe_length m
    ends =
        let up : (r.offset / stripe_length m) * stripe_length m ≤ s * stripe_length m =
        mul-le-mul_right (stripe_length m) t.0 in
        let one : (s + 1) * stripe_length m ≡ s * stripe_length m + stripe_length m = omega arith in
        omega (arith, up, one, div-add-mod' r.offset (stripe_length m), mod_below r.offset (stripe_length m) (some_stripe m ch))

    apart : (off len x L y : ℕ) → y ≡ x + L → off < y → x ≤ off + len - 1 → 0 < L → 0 < len
        → max off x - x < min (off + len) y - x
    apart off len x L y one before_ start some many = omega (arith, one, before_, start, some, many)

    within : (off len x L y : ℕ) → y ≡ x + L → (min (off + len) y - x) - (max off x - x) ≤ len
    within off len x L y one = omega (arith, one)

-- ---- what a plan needs

changed_short : (m : RawMap) (r : Span) (s c : ℕ) → IsChecked m → IsTouched m r s → AreShort r.length (changed m r s c)
unfolding changed
changed_short m r s c ch t =
    either_all (IsShort r.length) (nat_lt c (data_units m)) _ _ (own_columns_short m r s c) (columns_short m r s ch t)

needed_short : (aim : Aim) (m : RawMap) (r : Span) (out : List ℕ) (s c : ℕ) → IsChecked m → IsTouched m r s
    → AreShort r.length (needed aim m r out s c)
unfolding gathered
needed_short Reads m r out s c ch t =
    either_all (IsShort r.length) (is_hit m r out s) _ _ (columns_short m r s ch t) (own_columns_short m r s c)
needed_short Gathers m r out s c ch t =
    either_all (IsShort r.length) (whole m r s) [] _ tt
    (either_all (IsShort r.length) (is_degraded m out s) _ _ (columns_short m r s ch t) (changed_short m r s c ch t))
needed_short Scatters m r out s c ch t = changed_short m r s c ch t

rows_short : (m : RawMap) (s n : ℕ) (is : List Interval) → AreShort n is → AreShort n (at_rows m s is)
rows_short m s n is k =
    all_map (at_row m s) (IsShort n) (IsShort n) (λ i short. shifted (row_of m s * m.unit) i.first i.end short) is k
  where
    shifted : (x a b : ℕ) → b - a ≤ n → (x + b) - (x + a) ≤ n
    shifted x a b short = omega (arith, short)

-- ---- what isn't had

some_short : (n : ℕ) (i : Interval) → IsShort n i → AreShort n (some_of i)
some_short n i k = either_all (IsShort n) (nat_lt i.first i.end) (i ∷ []) [] (k, tt) tt

without_short : (n : ℕ) (had : List Stretch) (p : ℕ) (i : Interval) → IsShort n i → AreShort n (without had p i)
unfolding without
without_short n [] p i k = some_short n i k
without_short n (t ∷ ts) p i k =
    either_all (IsShort n) (t.position == p) _ _
    (each_more (IsShort n) _ _ (without_short n ts p (before t i) (omega (arith, k)))
    (without_short n ts p (behind t i) (omega (arith, k))))
    (without_short n ts p i k)

each_short : (n : ℕ) (had : List Stretch) (p : ℕ) (is : List Interval) → AreShort n is → AreShort n (without_each had p is)
unfolding without_each
each_short n had p [] k = tt
each_short n had p (i ∷ is) k =
    each_more (IsShort n) _ _ (without_short n had p i k.0) (each_short n had p is k.1)

-- ---- what is asked

-- each ask is of at most n bytes
abbrev pub AsksShort : (n : ℕ) → List Ask → Type 0
AsksShort n xs = AllByRecursion (λ (a : Ask). a.length ≤ n) xs

of_short : (n s p k : ℕ) (is : List Interval) → AreShort n is → AsksShort n (asks_of s p k is)
of_short n s p k is short = all_map _ (IsShort n) (λ (a : Ask). a.length ≤ n) (λ i x. x) is short

source_short : (n s p : ℕ) (o : Option ℕ) (is : List Interval) → AreShort n is → AsksShort n (asks_source s p o is)
source_short n s p None is k = tt
source_short n s p (Some j) is k = of_short n s p j is k

all_short : (n : ℕ) (out : List ℕ) (s p j many : ℕ) (is : List Interval) → AreShort n is
    → AsksShort n (asks_each out s p j many is)
unfolding asks_each
all_short n out s p j zero is k = tt
all_short n out s p j (suc many) is k =
    either_all (λ (a : Ask). a.length ≤ n) (among j out) _ _ (all_short n out s p (j + 1) many is k)
    (each_more (λ (a : Ask). a.length ≤ n) _ _ (of_short n s p j is k) (all_short n out s p (j + 1) many is k))

position_short : (n : ℕ) (aim : Aim) (m : RawMap) (out : List ℕ) (s p : ℕ) (is : List Interval) → AreShort n is
    → AsksShort n (asks_position aim m out s p is)
position_short n Reads m out s p is k = source_short n s p (source m out p) is k
position_short n Gathers m out s p is k = source_short n s p (source m out p) is k
position_short n Scatters m out s p is k = all_short n out s p (p * replicas m) (replicas m) is k

stripe_short : (aim : Aim) (m : RawMap) (r : Span) (out : List ℕ) (had : List Stretch) (s i many : ℕ) → IsChecked m
    → IsTouched m r s → AsksShort r.length (asks_stripe aim m r out had s i many)
unfolding asks_stripe asks_place
stripe_short aim m r out had s i zero ch t = tt
stripe_short aim m r out had s i (suc many) ch t =
    each_more (λ (a : Ask). a.length ≤ r.length) _ _
    (position_short r.length aim m out s (group_of m s * group_width m + i) _
    (each_short r.length had (group_of m s * group_width m + i) _
    (rows_short m s r.length _ (needed_short aim m r out s (unit_in m s i) ch t))))
    (stripe_short aim m r out had s (i + 1) many ch t)

these_short : (aim : Aim) (m : RawMap) (r : Span) (out : List ℕ) (had : List Stretch) (ss : List ℕ) → IsChecked m
    → AllByRecursion (IsTouched m r) ss → AsksShort r.length (asks aim m r out had ss)
unfolding asks
these_short aim m r out had [] ch t = tt
these_short aim m r out had (s ∷ ss) ch t =
    each_more (λ (a : Ask). a.length ≤ r.length) _ _ (stripe_short aim m r out had s 0 (group_width m) ch t.0)
    (these_short aim m r out had ss ch t.1)

stripes_touched : (m : RawMap) (r : Span) → AllByRecursion (IsTouched m r) (stripes m r)
unfolding stripes
stripes_touched m r = elim (cases_eq r.length 0) [
  | inl none ↦ rw (eq-eqb r.length 0 none) tt
  | inr some ↦
      let a : ℕ = stripe_of m r.offset in
      let b : ℕ = stripe_of m (end_of r - 1) in
      rw (ne_eqb r.length 0 some)
      (all_wider _ (IsTouched m r) (λ s k. (k.0, within a b s k.0 k.1, omega (arith, some))) _ (all_between a (b + 1 - a)))
]
  where
    within : (a b s : ℕ) → a ≤ s → s < a + (b + 1 - a) → s ≤ b
    within a b s l m = omega (arith, l, m)

-- so it is of all that a plan asks
pub asks_short : (aim : Aim) (m : RawMap) (r : Span) (out : List ℕ) (had : List Stretch) → IsChecked m
    → AsksShort r.length (asks aim m r out had (stripes m r))
asks_short aim m r out had ch = these_short aim m r out had (stripes m r) ch (stripes_touched m r)
