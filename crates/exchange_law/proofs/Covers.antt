-- What a read or a gather asks covers all that it needs and that it hasn't.
use Rattle.std.proofs.Common.{◌≡◌, ◌<◌, ◌≤◌, ◌⊎◌, ℕ, zero, suc, ◌+◌, ◌-◌, ◌*◌, false, List, [], ◌∷◌, ◌++◌, refl, sym, inl, inr, arith, eq-eqb, ne_eqb}
use Rattle.std.specs.Prelude.{Option, Some, None, is_none}
use Rattle.std.specs.List.{range_with_len}
use Rattle.std.proofs.lemmas.Bool.{cases_eq, cases_lt, lt-ltb}
use Rattle.data_map.specs.declared.check.RawMap.{RawMap}
use Rattle.data_map.specs.Striping.{group_width, group_of, row_of, offset_of, position_of, turned, stripe_of}
use Rattle.data_map.specs.Inverse.{unit_in}
use Rattle.data_map.proofs.Striping.{turned_below, unit_again}
use Rattle.stripe_plan.specs.declared.plan.Span.{Span}
use Rattle.stripe_plan.specs.declared.plan.Interval.{Interval}
use Rattle.stripe_plan.specs.declared.plan.Stretch.{Stretch}
use Rattle.stripe_plan.specs.declared.plan.Ask.{Ask}
use Rattle.stripe_plan.specs.declared.plan.Aim.{Aim}
use Rattle.stripe_plan.specs.declared.plan.Aim.TheVariants.{Reads, Gathers, Scatters}
use Rattle.stripe_plan.specs.Touched.{end_of, stripes, IsTouchedStripe}
use Rattle.stripe_plan.specs.Lost.{source, is_out}
use Rattle.stripe_plan.specs.Asks.{needed, at_rows, before, behind, without, without_each, asks_of, asks_source, asks_position, asks_place, asks_stripe, asks}
use Rattle.stripe_plan.specs.Laws.{IsWithin}
use Rattle.exchange_law.proofs.Rising.{IsAmong}

-- some stretch has the byte of position p at offset o
abbrev pub HasStretch : List Stretch → (p o : ℕ) → Type 0
HasStretch [] p o = ⊥
HasStretch (t ∷ ts) p o = ((t.position ≡ p) × (t.first ≤ o) × (o < t.end)) ⊎ HasStretch ts p o

-- some of these asks it
abbrev pub IsAsked : List Ask → (p o : ℕ) → Type 0
IsAsked [] p o = ⊥
IsAsked (a ∷ xs) p o = ((a.position ≡ p) × (a.offset ≤ o) × (o < a.offset + a.length)) ⊎ IsAsked xs p o

within_left : (o : ℕ) (is js : List Interval) → IsWithin o is → IsWithin o (is ++ js)
within_left o [] js w = absurd w
within_left o (i ∷ is) js (inl w) = inl w
within_left o (i ∷ is) js (inr w) = inr (within_left o is js w)

within_right : (o : ℕ) (is js : List Interval) → IsWithin o js → IsWithin o (is ++ js)
within_right o [] js w = w
within_right o (i ∷ is) js w = inr (within_right o is js w)

asked_left : (xs ys : List Ask) (p o : ℕ) → IsAsked xs p o → IsAsked (xs ++ ys) p o
asked_left [] ys p o w = absurd w
asked_left (a ∷ xs) ys p o (inl w) = inl w
asked_left (a ∷ xs) ys p o (inr w) = inr (asked_left xs ys p o w)

asked_right : (xs ys : List Ask) (p o : ℕ) → IsAsked ys p o → IsAsked (xs ++ ys) p o
asked_right [] ys p o w = w
asked_right (a ∷ xs) ys p o w = inr (asked_right xs ys p o w)

-- a byte of an interval is had, or it is left
without_point : (ts : List Stretch) (p o : ℕ) (i : Interval) → i.first ≤ o → o < i.end →
    HasStretch ts p o ⊎ IsWithin o (without ts p i)
unfolding without
without_point [] p o i l m = rw (lt-ltb i.first i.end (omega (arith, l, m))) (inr (inl (l, m)))
without_point (t ∷ ts) p o i l m = elim (cases_eq t.position p) [
  | inl same ↦ rw (eq-eqb t.position p same) (elim (cases_lt o t.first) [
    | inl u ↦ elim (without_point ts p o (before t i) l (omega (arith, m, u))) [
      | inl h ↦ inl (inr h)
      | inr w ↦ inr (within_left o (without ts p (before t i)) (without ts p (behind t i)) w)
    ]
    | inr v ↦ elim (cases_lt o t.end) [
      | inl u ↦ inl (inl (same, v, u))
      | inr x ↦ elim (without_point ts p o (behind t i) (omega (arith, l, x)) m) [
        | inl h ↦ inl (inr h)
        | inr w ↦ inr (within_right o (without ts p (before t i)) (without ts p (behind t i)) w)
      ]
    ]
  ])
  | inr other ↦ rw (ne_eqb t.position p other) (elim (without_point ts p o i l m) [ inl h ↦ inl (inr h) | inr w ↦ inr w ])
]

each_point : (ts : List Stretch) (p o : ℕ) (is : List Interval) → IsWithin o is →
    HasStretch ts p o ⊎ IsWithin o (without_each ts p is)
unfolding without_each
each_point ts p o [] w = absurd w
each_point ts p o (i ∷ is) (inl w) =
    elim (without_point ts p o i w.0 w.1) [
      | inl h ↦ inl h
      | inr x ↦
          inr (within_left o (without ts p i) (without_each ts p is) x)
    ]
each_point ts p o (i ∷ is) (inr w) =
    elim (each_point ts p o is w) [ inl h ↦ inl h | inr x ↦ inr (within_right o (without ts p i) (without_each ts p is) x) ]

-- ---- what is left is asked

of_point : (s p k o : ℕ) (is : List Interval) → IsWithin o is → IsAsked (asks_of s p k is) p o
of_point s p k o [] w = absurd w
of_point s p k o (i ∷ is) (inl w) = inl (refl, w.0, omega (arith, w.0, w.1))
of_point s p k o (i ∷ is) (inr w) = inr (of_point s p k o is w)

source_point : (s p o : ℕ) (k : Option ℕ) (is : List Interval) → is_none k ≡ false → IsWithin o is →
    IsAsked (asks_source s p k is) p o
source_point s p o None is n w = absurd (cc n)
source_point s p o (Some k) is n w = of_point s p k o is w

-- a read and a gather ask one replica of a position
abbrev pub AsksOne : Aim → Type 0
AsksOne Reads = Unit {0}
AsksOne Gathers = Unit {0}
AsksOne Scatters = ⊥

position_point : (aim : Aim) (m : RawMap) (out : List ℕ) (s p o : ℕ) (is : List Interval) → AsksOne aim → is_out m out p ≡ false →
    IsWithin o is →
    IsAsked (asks_position aim m out s p is) p o
position_point Reads m out s p o is one n w = source_point s p o (source m out p) is n w
position_point Gathers m out s p o is one n w = source_point s p o (source m out p) is n w
position_point Scatters m out s p o is one n w = absurd one

shift : (k a b : ℕ) → a ≤ b → k + a ≤ k + b
shift k a b l = omega (arith, l)

shift_less : (k a b : ℕ) → a < b → k + a < k + b
shift_less k a b l = omega (arith, l)

rows_point : (m : RawMap) (s b : ℕ) (is : List Interval) → IsWithin b is → IsWithin (offset_of m s b) (at_rows m s is)
rows_point m s b [] w = absurd w
rows_point m s b (i ∷ is) (inl w) = inl (shift (row_of m s * m.unit) i.first b w.0, shift_less (row_of m s * m.unit) b i.end w.1)
rows_point m s b (i ∷ is) (inr w) = inr (rows_point m s b is w)

place_point : (aim : Aim) (m : RawMap) (r : Span) (out : List ℕ) (hs : List Stretch) (s b c i p : ℕ) → AsksOne aim →
    c ≡ unit_in m s i → p ≡ group_of m s * group_width m + i → is_out m out p ≡ false → IsWithin b (needed aim m r out s c) →
    HasStretch hs p (offset_of m s b) ⊎ IsAsked (asks_place aim m r out hs s i) p (offset_of m s b)
unfolding asks_place
place_point aim m r out hs s b c i p one e f n w =
    let rows : IsWithin (offset_of m s b) (at_rows m s (needed aim m r out s (unit_in m s i))) =
    rows_point m s b (needed aim m r out s (unit_in m s i)) (rw e at w) in
    let here : is_out m out (group_of m s * group_width m + i) ≡ false = rw f at n in
    rw f
    (elim
    (each_point hs (group_of m s * group_width m + i) (offset_of m s b)
    (at_rows m s (needed aim m r out s (unit_in m s i))) rows) [
      | inl h ↦ inl h
      | inr x ↦ inr (position_point aim m out s (group_of m s * group_width m + i) (offset_of m s b) _ one here x)
    ])

stripe_point : (aim : Aim) (m : RawMap) (r : Span) (out : List ℕ) (hs : List Stretch) (s i j n p o : ℕ) → i ≤ j → j < i + n →
    IsAsked (asks_place aim m r out hs s j) p o → IsAsked (asks_stripe aim m r out hs s i n) p o
unfolding asks_stripe
stripe_point aim m r out hs s i j zero p o l u x = absurd (omega (arith, l, u))
stripe_point aim m r out hs s i j (suc n) p o l u x = elim (cases_eq j i) [
  | inl same ↦ let here : IsAsked (asks_place aim m r out hs s i) p o = rw same at x in
      asked_left (asks_place aim m r out hs s i) (asks_stripe aim m r out hs s (i + 1) n) p o here
  | inr other ↦
      asked_right (asks_place aim m r out hs s i) (asks_stripe aim m r out hs s (i + 1) n) p o
      (stripe_point aim m r out hs s (i + 1) j n p o (omega (arith, l, other)) (omega (arith, u)) x)
]

all_point : (aim : Aim) (m : RawMap) (r : Span) (out : List ℕ) (hs : List Stretch) (s p o : ℕ) (ss : List ℕ) → IsAmong s ss →
    IsAsked (asks_stripe aim m r out hs s 0 (group_width m)) p o → IsAsked (asks aim m r out hs ss) p o
unfolding asks
all_point aim m r out hs s p o [] i x = absurd i
all_point aim m r out hs s p o (t ∷ ss) (inl e) x =
    let here : IsAsked (asks_stripe aim m r out hs t 0 (group_width m)) p o = rw e at x in
    asked_left (asks_stripe aim m r out hs t 0 (group_width m)) (asks aim m r out hs ss) p o here
all_point aim m r out hs s p o (t ∷ ss) (inr i) x =
    asked_right (asks_stripe aim m r out hs t 0 (group_width m)) (asks aim m r out hs ss) p o
    (all_point aim m r out hs s p o ss i x)

among_range : (a n s : ℕ) → a ≤ s → s < a + n → IsAmong s (range_with_len a n)
among_range a zero s l u = absurd (omega (arith, l, u))
among_range a (suc n) s l u =
    elim (cases_eq s a) [
      | inl same ↦ inl same
      | inr other ↦
          inr (among_range (a + 1) n s (omega (arith, l, other)) (omega (arith, u)))
    ]

last_of : (f l s : ℕ) → f ≤ s → s ≤ l → s < f + (l + 1 - f)
last_of f l s a b = omega (arith, a, b)

stripe_among : (m : RawMap) (r : Span) (s : ℕ) → 0 < r.length → IsTouchedStripe m r s → IsAmong s (stripes m r)
unfolding stripes
stripe_among m r s some t =
    rw (ne_eqb r.length 0 (λ e. omega (arith, some, e)))
    (among_range (stripe_of m r.offset) (stripe_of m (end_of r - 1) + 1 - stripe_of m r.offset) s t.0
    (last_of (stripe_of m r.offset) (stripe_of m (end_of r - 1)) s t.0 t.1))

swapped : (a b : ℕ) → a + b ≡ b + a
swapped a b = omega arith

none_below : (a : ℕ) → 0 ≤ a
none_below a = omega arith

from_none : (a b : ℕ) → a < b → a < 0 + b
from_none a b l = omega (arith, l)

pub asks_cover : (aim : Aim) (m : RawMap) (r : Span) (out : List ℕ) (hs : List Stretch) (s b c : ℕ) → AsksOne aim → 0 < r.length →
    IsTouchedStripe m r s → c < group_width m → is_out m out (position_of m s c) ≡ false →
    IsWithin b (needed aim m r out s c) →
    HasStretch hs (position_of m s c) (offset_of m s b) ⊎ IsAsked (asks aim m r out hs (stripes m r)) (position_of m s c)
    (offset_of m s b)
asks_cover aim m r out hs s b c one some t l n w =
    elim (place_point aim m r out hs s b c (turned m s c) (position_of m s c) one (sym (unit_again m s c l))
    (swapped (turned m s c) (group_of m s * group_width m)) n w) [
      | inl h ↦ inl h
      | inr x ↦
          inr (all_point aim m r out hs s (position_of m s c) (offset_of m s b) (stripes m r) (stripe_among m r s some t)
          (stripe_point aim m r out hs s 0 (turned m s c) (group_width m) (position_of m s c) (offset_of m s b)
          (none_below (turned m s c)) (from_none (turned m s c) (group_width m) (turned_below m s c l)) x))
    ]
