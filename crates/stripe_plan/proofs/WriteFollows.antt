-- The bytes of a write are those of the codewords of all data that agree with what was gathered, with the new bytes.
use Rattle.std.proofs.Common.{◌≡◌, ℕ, zero, suc, ◌+◌, ◌-◌, ◌*◌, ◌<◌, ◌≤◌, false, List, [], ◌∷◌, length, get_or, map, refl, ◌∙◌, arith, inl, inr, eq-eqb}
use Rattle.std.specs.Prelude.{None}
use Rattle.std.specs.List.{All, range_with_len}
use Rattle.std.proofs.lemmas.Bool.{cases_Bool, cases_lt, lt-ltb, le-ltb}
use Rattle.std.proofs.lemmas.List.{length-map, get_or-map}
use Rattle.std.proofs.lemmas.List.Elements.{All-append}
use Rattle.std.proofs.lemmas.List.FromFn.{length-map-range_with_len, get_or-map-range_with_len}
use Rattle.data_map.specs.declared.check.RawMap.{RawMap}
use Rattle.data_map.specs.Check.{IsChecked}
use Rattle.data_map.specs.Striping.{group_of, group_width, data_units, stripe_of, position_of, offset_of}
use Rattle.data_map.specs.Inverse.{unit_in}
use Rattle.data_map.proofs.Striping.{turned_again, unit_below}
use Rattle.stripe_plan.specs.declared.plan.Span.{Span}
use Rattle.stripe_plan.specs.declared.plan.Interval.{Interval}
use Rattle.stripe_plan.specs.declared.plan.Column.{Column}
use Rattle.stripe_plan.specs.Touched.{end_of, stripes, own, touches, columns, low, high}
use Rattle.stripe_plan.specs.Lost.{is_out, unwritable}
use Rattle.stripe_plan.specs.Asks.{own_columns, changed}
use Rattle.stripe_plan.specs.Words.{word_at}
use Rattle.stripe_plan.specs.Laws.{word_of, over, IsWithin, HoldsWords, FollowsWrite}
use Rattle.stripe_plan.specs.Plans.{written_columns, written_place, written_stripe, written}
use Rattle.stripe_plan.proofs.ReadLaws.{stripes_are}
use Rattle.stripe_plan.proofs.WriteLaws.{within_unit, payload_right}

-- ---- lists

all_none : {A : Type 0} (P : A → Type 0) → All P []
all_none P = λ k d lt. absurd (omega (arith, lt))

-- an interval of the list has the columns that the list has
within_at : (is : List Interval) (j b : ℕ) (d : Interval) → j < length is → (get_or is j d).first ≤ b → b < (get_or is j d).end →
    IsWithin b is
within_at [] j b d lt le bl = absurd (omega (arith, lt))
within_at (i ∷ is) zero b d lt le bl = inl (le, bl)
within_at (i ∷ is) (suc j) b d lt le bl = inr (within_at is j b d (omega (arith, lt)) le bl)

-- what a write changes is of one unit
pub within_changed : (m : RawMap) (r : Span) (s c b : ℕ) → IsChecked m → IsWithin b (changed m r s c) → b < m.unit
unfolding changed own_columns own columns
within_changed m r s c b ch w = elim (cases_lt c (data_units m)) [
  | inl low ↦ elim (cases_Bool (touches m r s c)) [
    | inl t ↦ one (rw (lt-ltb c (data_units m) low, t) at w)
    | inr f ↦ absurd (rw (lt-ltb c (data_units m) low, f) at w)
  ]
  | inr past ↦ within_unit m.unit (low m r s) (high m r s) b ch.some_unit (rw (le-ltb c (data_units m) past) at w)
]
  where
    one : IsWithin b (own m r s c ∷ []) → b < m.unit
    one (inl x) = omega (arith, x.1)
    one (inr x) = absurd x

-- ---- one place

-- the words of the data with the new bytes
abbrev Right : RawMap → Span → List ℕ → List Column → List ℕ → (ℕ → ℕ) → (s c : ℕ) → Type 0
Right m r bytes got out d s c =
    (b : ℕ) → IsWithin b (changed m r s c) → word_at m r bytes got out s b c ≡ word_of m (over r bytes d) s b c

columns_hold : (m : RawMap) (r : Span) (bytes : List ℕ) (got : List Column) (out : List ℕ) (d : ℕ → ℕ) (s c p : ℕ) → IsChecked m →
    c < group_width m → p ≡ position_of m s c → Right m r bytes got out d s c →
    All (HoldsWords m (over r bytes d)) (written_columns m r bytes got out s c p (changed m r s c))
columns_hold m r bytes got out d s c p ch wide is_p right = λ j x lt.
    let is = changed m r s c in
    let none : Interval = record { first = 0; end = 0 } in
    let here : j < length is = omega (arith, lt, length-map is (λ (i : Interval). column_of i)) in
    rw (get_or-map (λ (i : Interval). column_of i) is j none x here)
    (hold (get_or is j none) (λ b le bl. within_at is j b none here le bl))
  where
    column_of : Interval → Column
    column_of i =
        record {
          position = p;
          offset = offset_of m s i.first;
          bytes =
              map (λ (b : ℕ). word_at m r bytes got out s b c) (range_with_len i.first (i.end - i.first));
        }

    hold : (i : Interval) → ((b : ℕ) → i.first ≤ b → b < i.end → IsWithin b (changed m r s c)) →
        HoldsWords m (over r bytes d) (column_of i)
    hold i within =
        let long : length
        (map (λ (b : ℕ). word_at m r bytes got out s b c) (range_with_len i.first (i.end - i.first))) ≡ i.end - i.first =
        length-map-range_with_len (λ (b : ℕ). word_at m r bytes got out s b c) i.first (i.end - i.first) in
        record {
          stripe = s;
          unit = c;
          first = i.first;
          below = wide;
          inside = λ some. omega (
            arith,
            long,
            some,
            within_changed m r s c (i.end - 1) ch (within (i.end - 1) (omega (arith, long, some)) (omega (arith, long, some))),
          );
          position = is_p;
          offset = refl;
          each = λ k lt.
              get_or-map-range_with_len (λ (b : ℕ). word_at m r bytes got out s b c) i.first (i.end - i.first) k (i.first + k) 0
              (omega (arith, lt, long)) refl
              ∙ right (i.first + k) (within (i.first + k) (omega arith) (omega (arith, lt, long)));
        }

-- ---- all of them

-- for each unit that isn't out
abbrev AllRight : RawMap → Span → List ℕ → List Column → List ℕ → (ℕ → ℕ) → (s : ℕ) → Type 0
AllRight m r bytes got out d s =
    (b c : ℕ) → c < group_width m → is_out m out (position_of m s c) ≡ false → IsWithin b (changed m r s c) →
    word_at m r bytes got out s b c ≡ word_of m (over r bytes d) s b c

place_holds : (m : RawMap) (r : Span) (bytes : List ℕ) (got : List Column) (out : List ℕ) (d : ℕ → ℕ) (s i : ℕ) → IsChecked m →
    i < group_width m → AllRight m r bytes got out d s →
    All (HoldsWords m (over r bytes d)) (written_place m r bytes got out s i)
unfolding written_place
place_holds m r bytes got out d s i ch lt right =
    let at : group_of m s * group_width m + i ≡ position_of m s (unit_in m s i) = omega (arith, turned_again m s i lt) in
    elim (cases_Bool (is_out m out (group_of m s * group_width m + i))) [
      | inl gone ↦ rw gone (all_none (HoldsWords m (over r bytes d)))
      | inr there ↦ rw there
          (columns_hold m r bytes got out d s (unit_in m s i) (group_of m s * group_width m + i) ch (unit_below m s i lt) at
          (λ b w. right b (unit_in m s i) (unit_below m s i lt) (rw at at there) w))
    ]

stripe_holds : (m : RawMap) (r : Span) (bytes : List ℕ) (got : List Column) (out : List ℕ) (d : ℕ → ℕ) (s i n : ℕ) → IsChecked m →
    i + n ≤ group_width m → AllRight m r bytes got out d s →
    All (HoldsWords m (over r bytes d)) (written_stripe m r bytes got out s i n)
unfolding written_stripe
stripe_holds m r bytes got out d s i zero ch le right = all_none (HoldsWords m (over r bytes d))
stripe_holds m r bytes got out d s i (suc n) ch le right =
    All-append (HoldsWords m (over r bytes d)) (written_place m r bytes got out s i)
    (written_stripe m r bytes got out s (i + 1) n) (place_holds m r bytes got out d s i ch (omega (arith, le)) right)
    (stripe_holds m r bytes got out d s (i + 1) n ch (omega (arith, le)) right)

stripes_hold : (m : RawMap) (r : Span) (bytes : List ℕ) (got : List Column) (out : List ℕ) (d : ℕ → ℕ) (a n : ℕ) → IsChecked m →
    ((s : ℕ) → a ≤ s → s < a + n → AllRight m r bytes got out d s) →
    All (HoldsWords m (over r bytes d)) (written m r bytes got out (range_with_len a n))
unfolding written
stripes_hold m r bytes got out d a zero ch right = all_none (HoldsWords m (over r bytes d))
stripes_hold m r bytes got out d a (suc n) ch right =
    All-append (HoldsWords m (over r bytes d)) (written_stripe m r bytes got out a 0 (group_width m))
    (written m r bytes got out (range_with_len (a + 1) n))
    (stripe_holds m r bytes got out d a 0 (group_width m) ch (omega arith) (right a (omega arith) (omega arith)))
    (stripes_hold m r bytes got out d (a + 1) n ch (λ s le lt. right s (omega (arith, le)) (omega (arith, lt))))

pub no_stripes : (m : RawMap) (r : Span) → r.length ≡ 0 → stripes m r ≡ []
unfolding stripes
no_stripes m r none = rw (eq-eqb r.length 0 none) refl

nothing_written : (m : RawMap) (r : Span) (bytes : List ℕ) (got : List Column) (out : List ℕ) → written m r bytes got out [] ≡ []
unfolding written
nothing_written m r bytes got out = refl

pub write_follows : (m : RawMap) (r : Span) (bytes : List ℕ) (got : List Column) (out : List ℕ) → IsChecked m →
    length bytes ≡ r.length → unwritable m out (stripes m r) ≡ None →
    FollowsWrite m r bytes got out (written m r bytes got out (stripes m r))
write_follows m r bytes got out ch long can = λ d db fetched agrees. elim (cases_lt 0 r.length) [
  | inl some ↦
      rw (stripes_are m r some)
      (stripes_hold m r bytes got out d (stripe_of m r.offset) (stripe_of m (end_of r - 1) + 1 - stripe_of m r.offset) ch
      (λ s le lt b c wide there w. payload_right m r bytes got out d ch db long can fetched agrees some s b c
      (le, omega (arith, lt, le)) wide there w))
  | inr none ↦ rw (no_stripes m r (omega (arith, none)), nothing_written m r bytes got out)
      (all_none (HoldsWords m (over r bytes d)))
]
