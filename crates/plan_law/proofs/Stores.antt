-- The WRITEs of a scatter: what each carries, and that each changed byte is carried.
use Rattle.std.proofs.Common.{◌≡◌, ℕ, zero, suc, ◌+◌, ◌-◌, ◌*◌, ◌/◌, ◌%◌, ◌<◌, ◌≤◌, true, false, List, [], ◌∷◌, ◌++◌, length}
use Rattle.std.proofs.Common.{get_or, map, refl, sym, ap, ◌∙◌, arith, inl, inr}
use Rattle.std.specs.Prelude.{◌⊎◌, is_none}
use Rattle.std.specs.List.{All, range_with_len}
use Rattle.std.proofs.lemmas.Bool.{cases_Bool, cases_eq, cases_lt, lt-ltb, le-ltb}
use Rattle.std.proofs.lemmas.Nat.{div-mul-add, div-add-mod', mod_below}
use Rattle.std.proofs.lemmas.List.FromFn.{length-map-range_with_len, get_or-map-range_with_len}
use Rattle.data_map.specs.declared.check.RawMap.{RawMap}
use Rattle.data_map.specs.Check.{IsChecked}
use Rattle.data_map.specs.Striping.{replicas, positions, group_of, group_width, data_units, stripe_of, position_of, offset_of}
use Rattle.data_map.specs.Striping.{turned}
use Rattle.data_map.specs.Inverse.{stripe_at, unit_at, byte_at, unit_in}
use Rattle.data_map.proofs.Striping.{turned_below, unit_again, unit_below, position_in_range, byte_stripe}
use Rattle.data_map.proofs.Shape.{replicas_inside}
use Rattle.stripe_plan.specs.declared.plan.Span.{Span}
use Rattle.stripe_plan.specs.declared.plan.Interval.{Interval}
use Rattle.stripe_plan.specs.declared.plan.Column.{Column}
use Rattle.stripe_plan.specs.declared.plan.Ask.{Ask}
use Rattle.stripe_plan.specs.declared.plan.Aim.TheVariants.{Scatters}
use Rattle.stripe_plan.specs.Touched.{end_of, stripes, unit_start, IsTouchedStripe}
use Rattle.stripe_plan.specs.Lost.{among, source_from, source, is_out}
use Rattle.stripe_plan.specs.Asks.{changed, at_row, at_rows, without, without_each, asks_of, asks_each, asks_place, asks_stripe}
use Rattle.stripe_plan.specs.Asks.{asks}
use Rattle.stripe_plan.specs.Words.{bytes_at}
use Rattle.stripe_plan.specs.Words.{byte_at as byte_got}
use Rattle.stripe_plan.specs.Laws.{IsWithin, IsGot}
use Rattle.stripe_plan.specs.Plans.{writes, written, filled, stores}
use Rattle.stripe_plan.proofs.ReadLaws.{stripes_are, stripe_touched}
use Rattle.stripe_plan.proofs.WriteFollows.{within_changed, no_stripes}
use Rattle.plan_law.specs.Writes.{touches_cell, interval_start, interval_end, part_of, IsCarried, IsRightStore}
use Rattle.plan_law.specs.Sending.{MayScatter, StoresAreRight}
use Rattle.plan_law.proofs.Cells.{stands_at, position_again, offset_again, unit_inside}
use Rattle.plan_law.proofs.Payloads.{changed_low, changed_high, range_means, any_touched, payloads_are_right}
use Rattle.plan_law.proofs.Intervals.{Every, every_append, IsPart, of_part, changed_parts, range_own, changed_is}
use Rattle.plan_law.proofs.Written.{place_is, word_for, got_for, written_for, written_got, place_at}

-- ---- asks

-- each byte of these rows is a changed column of the unit, in an interval that begins where they do
abbrev IsRow : RawMap → Span → (s c : ℕ) → Interval → Type 0
IsRow m r s c i = (i.first < i.end) × ((z : ℕ) → i.first ≤ z → z < i.end →
    (b : ℕ) × (offset_of m s b ≡ z) × IsWithin b (changed m r s c) ×
    (offset_of m s (interval_start b (changed m r s c)) ≡ i.first) × (offset_of m s (interval_end b (changed m r s c)) ≡ i.end))

rows_are : (m : RawMap) (r : Span) (s c p : ℕ) (is : List Interval) → Every (IsPart (changed m r s c)) is →
    Every (IsRow m r s c) (without_each [] p (at_rows m s is))
unfolding without_each without
rows_are m r s c p [] h = tt
rows_are m r s c p (i ∷ is) h = every_append (IsRow m r s c) (without [] p (at_row m s i)) (without_each [] p (at_rows m s is))
    here (rows_are m r s c p is h.1)
  where
    here : Every (IsRow m r s c) (without [] p (at_row m s i))
    here = elim (cases_lt (offset_of m s i.first) (offset_of m s i.end)) [
      | inl lt ↦ rw (lt-ltb (offset_of m s i.first) (offset_of m s i.end) lt) (
        (
          lt,
          λ z from to.
              let b : ℕ = i.first + (z - offset_of m s i.first) in
              let part = h.0 b (omega arith) (omega (arith, from, to)) in
              (b, omega (arith, from), part.0, ap (offset_of m s) part.1, ap (offset_of m s) part.2),
        ),
        tt,
      )
      | inr le ↦ rw (le-ltb (offset_of m s i.first) (offset_of m s i.end) le) tt
    ]

-- an ask for a component that isn't out, of changed bytes of one unit of a touched stripe
pub record IsForAsk (m : RawMap) (r : Span) (out : List ℕ) (a : Ask) : Type 0 where
  pub stripe : ℕ
  pub unit : ℕ
  pub told : a.stripe ≡ stripe
  pub wide : unit < group_width m
  pub touched : IsTouchedStripe m r stripe
  pub position : position_of m stripe unit ≡ a.position
  pub component : a.component / replicas m ≡ a.position
  pub below : a.component < m.comps
  pub there : among a.component out ≡ false
  pub some : 0 < a.length
  pub each : (j : ℕ) → j < a.length → (b : ℕ) × (offset_of m stripe b ≡ a.offset + j) × IsWithin b (changed m r stripe unit) ×
      (offset_of m stripe (interval_start b (changed m r stripe unit)) ≡ a.offset) ×
      (offset_of m stripe (interval_end b (changed m r stripe unit)) ≡ a.offset + a.length)

asks_of_are : (m : RawMap) (r : Span) (out : List ℕ) (s c p k : ℕ) (is : List Interval) → c < group_width m →
    IsTouchedStripe m r s → position_of m s c ≡ p → k / replicas m ≡ p → k < m.comps → among k out ≡ false →
    Every (IsRow m r s c) is → Every (IsForAsk m r out) (asks_of s p k is)
asks_of_are m r out s c p k [] wide t is_p is_k below there h = tt
asks_of_are m r out s c p k (i ∷ is) wide t is_p is_k below there h = (
  record {
    stripe = s;
    unit = c;
    told = refl;
    wide = wide;
    touched = t;
    position = is_p;
    component = is_k;
    below = below;
    there = there;
    some = omega (arith, h.0.0);
    each = λ j lt. (let x = h.0.1 (i.first + j) (omega arith) (omega (arith, lt)) in
        (x.0, x.1, x.2, x.3, x.4 ∙ omega (arith, h.0.0)));
  },
  asks_of_are m r out s c p k is wide t is_p is_k below there h.1,
)

asks_each_are : (m : RawMap) (r : Span) (out : List ℕ) (s c p k n : ℕ) (is : List Interval) → c < group_width m →
    IsTouchedStripe m r s → position_of m s c ≡ p →
    ((j : ℕ) → k ≤ j → j < k + n → (j / replicas m ≡ p) × (j < m.comps)) → Every (IsRow m r s c) is →
    Every (IsForAsk m r out) (asks_each out s p k n is)
unfolding asks_each
asks_each_are m r out s c p k zero is wide t is_p at h = tt
asks_each_are m r out s c p k (suc n) is wide t is_p at h =
    let here = at k (omega arith) (omega arith) in
    let rest = asks_each_are m r out s c p (k + 1) n is wide t is_p (λ j le lt. at j (omega (arith, le)) (omega (arith, lt))) h in
    elim (cases_Bool (among k out)) [
      | inl gone ↦ rw gone rest
      | inr there ↦ rw there (every_append (IsForAsk m r out) (asks_of s p k is) (asks_each out s p (k + 1) n is)
          (asks_of_are m r out s c p k is wide t is_p here.0 here.1 there h) rest)
    ]

-- the components of a position
pub components : (m : RawMap) (p j : ℕ) → IsChecked m → p < positions m → p * replicas m ≤ j → j < p * replicas m + replicas m →
    (j / replicas m ≡ p) × (j < m.comps)
components m p j c below from to =
    let at : j ≡ p * replicas m + (j - p * replicas m) = omega (arith, from) in (
      ap (λ x. x / replicas m) at ∙ div-mul-add p (replicas m) (j - p * replicas m) (omega (arith, from, to)),
      omega (arith, to, replicas_inside m p c below),
    )

place_asks : (m : RawMap) (r : Span) (out : List ℕ) (s i : ℕ) → IsChecked m → i < group_width m → IsTouchedStripe m r s →
    Every (IsForAsk m r out) (asks_place Scatters m r out [] s i)
unfolding asks_place
place_asks m r out s i ch lt t =
    let c : ℕ = unit_in m s i in
    let p : ℕ = group_of m s * group_width m + i in
    let wide = unit_below m s i lt in
    let is_p = place_at m s i lt in
    let inside : p < positions m = rw is_p at (position_in_range m s (unit_in m s i) ch wide) in
    asks_each_are m r out s (unit_in m s i) p (p * replicas m) (replicas m)
    (without_each [] p (at_rows m s (changed m r s (unit_in m s i)))) wide t is_p
    (λ j from to. components m p j ch inside from to)
    (rows_are m r s (unit_in m s i) p (changed m r s (unit_in m s i)) (changed_parts m r s (unit_in m s i)))

stripe_asks : (m : RawMap) (r : Span) (out : List ℕ) (s i n : ℕ) → IsChecked m → i + n ≤ group_width m → IsTouchedStripe m r s →
    Every (IsForAsk m r out) (asks_stripe Scatters m r out [] s i n)
unfolding asks_stripe
stripe_asks m r out s i zero ch le t = tt
stripe_asks m r out s i (suc n) ch le t = every_append (IsForAsk m r out) (asks_place Scatters m r out [] s i)
    (asks_stripe Scatters m r out [] s (i + 1) n) (place_asks m r out s i ch (omega (arith, le)) t)
    (stripe_asks m r out s (i + 1) n ch (omega (arith, le)) t)

pub all_asks : (m : RawMap) (r : Span) (out : List ℕ) (a n : ℕ) → IsChecked m →
    ((s : ℕ) → a ≤ s → s < a + n → IsTouchedStripe m r s) →
    Every (IsForAsk m r out) (asks Scatters m r out [] (range_with_len a n))
unfolding asks
all_asks m r out a zero ch t = tt
all_asks m r out a (suc n) ch t = every_append (IsForAsk m r out) (asks_stripe Scatters m r out [] a 0 (group_width m))
    (asks Scatters m r out [] (range_with_len (a + 1) n))
    (stripe_asks m r out a 0 (group_width m) ch (omega arith) (t a (omega arith) (omega arith)))
    (all_asks m r out (a + 1) n ch (λ s le lt. t s (omega (arith, le)) (omega (arith, lt))))

-- ---- each is asked

abbrev IsAsked : List Ask → (k z : ℕ) → Type 0
IsAsked [] k z = ⊥
IsAsked (a ∷ as_) k z = ((a.component ≡ k) × (a.offset ≤ z) × (z < a.offset + a.length)) ⊎ IsAsked as_ k z

asked_left : (xs ys : List Ask) (k z : ℕ) → IsAsked xs k z → IsAsked (xs ++ ys) k z
asked_left [] ys k z g = absurd g
asked_left (x ∷ xs) ys k z (inl g) = inl g
asked_left (x ∷ xs) ys k z (inr g) = inr (asked_left xs ys k z g)

asked_right : (xs ys : List Ask) (k z : ℕ) → IsAsked ys k z → IsAsked (xs ++ ys) k z
asked_right [] ys k z g = g
asked_right (x ∷ xs) ys k z g = inr (asked_right xs ys k z g)

within_left : (xs ys : List Interval) (b : ℕ) → IsWithin b xs → IsWithin b (xs ++ ys)
within_left [] ys b g = absurd g
within_left (x ∷ xs) ys b (inl g) = inl g
within_left (x ∷ xs) ys b (inr g) = inr (within_left xs ys b g)

within_right : (xs ys : List Interval) (b : ℕ) → IsWithin b ys → IsWithin b (xs ++ ys)
within_right [] ys b g = g
within_right (x ∷ xs) ys b g = inr (within_right xs ys b g)

rows_have : (m : RawMap) (s p b : ℕ) (is : List Interval) → IsWithin b is →
    IsWithin (offset_of m s b) (without_each [] p (at_rows m s is))
unfolding without_each without
rows_have m s p b [] w = absurd w
rows_have m s p b (i ∷ is) (inl x) = within_left (without [] p (at_row m s i)) (without_each [] p (at_rows m s is))
    (offset_of m s b) here
  where
    here : IsWithin (offset_of m s b) (without [] p (at_row m s i))
    here = rw (lt-ltb (offset_of m s i.first) (offset_of m s i.end) (omega (arith, x.0, x.1)))
        (inl (omega (arith, x.0), omega (arith, x.1)))
rows_have m s p b (i ∷ is) (inr x) = within_right (without [] p (at_row m s i)) (without_each [] p (at_rows m s is))
    (offset_of m s b) (rows_have m s p b is x)

asks_of_have : (s p k z : ℕ) (is : List Interval) → IsWithin z is → IsAsked (asks_of s p k is) k z
asks_of_have s p k z [] w = absurd w
asks_of_have s p k z (i ∷ is) (inl x) = inl (refl, x.0, omega (arith, x.0, x.1))
asks_of_have s p k z (i ∷ is) (inr x) = inr (asks_of_have s p k z is x)

asks_each_have : (out : List ℕ) (s p k n j z : ℕ) (is : List Interval) → k ≤ j → j < k + n → among j out ≡ false → IsWithin z is →
    IsAsked (asks_each out s p k n is) j z
unfolding asks_each
asks_each_have out s p k zero j z is le lt there w = absurd (omega (arith, le, lt))
asks_each_have out s p k (suc n) j z is le lt there w = elim (cases_eq k j) [
  | inl same ↦
      let free : among k out ≡ false = rw same there in
      rw free (asked_left (asks_of s p k is) (asks_each out s p (k + 1) n is) j z (rw (sym same) (asks_of_have s p k z is w)))
  | inr other ↦
      let rest = asks_each_have out s p (k + 1) n j z is (omega (arith, le, other)) (omega (arith, lt)) there w in
      elim (cases_Bool (among k out)) [
        | inl t ↦ rw t rest
        | inr f ↦
            rw f (asked_right (asks_of s p k is) (asks_each out s p (k + 1) n is) j z rest)
      ]
]

place_have : (m : RawMap) (r : Span) (out : List ℕ) (s c b p k : ℕ) → c < group_width m → position_of m s c ≡ p →
    p * replicas m ≤ k → k < p * replicas m + replicas m → among k out ≡ false → IsWithin b (changed m r s c) →
    IsAsked (asks_place Scatters m r out [] s (turned m s c)) k (offset_of m s b)
unfolding asks_place
place_have m r out s c b p k wide is_p from to there w =
    let at : group_of m s * group_width m + turned m s c ≡ p = omega (arith, is_p) in
    rw (at, unit_again m s c wide) (asks_each_have out s p (p * replicas m) (replicas m) k (offset_of m s b)
    (without_each [] p (at_rows m s (changed m r s c))) from to there (rows_have m s p b (changed m r s c) w))

stripe_have : (m : RawMap) (r : Span) (out : List ℕ) (s i n t k z : ℕ) → i ≤ t → t < i + n →
    IsAsked (asks_place Scatters m r out [] s t) k z → IsAsked (asks_stripe Scatters m r out [] s i n) k z
unfolding asks_stripe
stripe_have m r out s i zero t k z le lt g = absurd (omega (arith, le, lt))
stripe_have m r out s i (suc n) t k z le lt g = elim (cases_eq i t) [
  | inl same ↦ asked_left (asks_place Scatters m r out [] s i) (asks_stripe Scatters m r out [] s (i + 1) n) k z
      (rw (sym same) at g)
  | inr other ↦ asked_right (asks_place Scatters m r out [] s i) (asks_stripe Scatters m r out [] s (i + 1) n) k z
      (stripe_have m r out s (i + 1) n t k z (omega (arith, le, other)) (omega (arith, lt)) g)
]

all_have : (m : RawMap) (r : Span) (out : List ℕ) (a n s k z : ℕ) → a ≤ s → s < a + n →
    IsAsked (asks_stripe Scatters m r out [] s 0 (group_width m)) k z →
    IsAsked (asks Scatters m r out [] (range_with_len a n)) k z
unfolding asks
all_have m r out a zero s k z le lt g = absurd (omega (arith, le, lt))
all_have m r out a (suc n) s k z le lt g = elim (cases_eq a s) [
  | inl same ↦ asked_left (asks_stripe Scatters m r out [] a 0 (group_width m))
      (asks Scatters m r out [] (range_with_len (a + 1) n)) k z (rw (sym same) at g)
  | inr other ↦ asked_right (asks_stripe Scatters m r out [] a 0 (group_width m))
      (asks Scatters m r out [] (range_with_len (a + 1) n)) k z
      (all_have m r out (a + 1) n s k z (omega (arith, le, other)) (omega (arith, lt)) g)
]

-- ---- stores

source_there : (out : List ℕ) (k n j : ℕ) → k ≤ j → j < k + n → among j out ≡ false → is_none (source_from out k n) ≡ false
unfolding source_from
source_there out k zero j le lt there = absurd (omega (arith, le, lt))
source_there out k (suc n) j le lt there = elim (cases_Bool (among k out)) [
  | inl t ↦ elim (cases_eq k j) [
    | inl same ↦ absurd (cc (sym there ∙ ap (λ x. among x out) (sym same) ∙ t))
    | inr other ↦ rw t (source_there out (k + 1) n j (omega (arith, le, other)) (omega (arith, lt)) there)
  ]
  | inr f ↦ rw f refl
]

-- the position of a component that isn't out isn't out
position_there : (m : RawMap) (out : List ℕ) (k : ℕ) → among k out ≡ false → is_out m out (k / replicas m) ≡ false
unfolding source
position_there m out k there =
    let whole = div-add-mod' k (replicas m) in
    let rest : k % replicas m < replicas m = mod_below k (replicas m) (omega arith) in
    source_there out (k / replicas m * replicas m) (replicas m) k (omega (arith, whole)) (omega (arith, whole, rest)) there

-- a changed byte is of a touched stripe
changed_means : (m : RawMap) (r : Span) (k z : ℕ) → IsChecked m → touches_cell m r k z ≡ true →
    IsTouchedStripe m r (stripe_at m (k / replicas m) z) ×
    IsWithin (z % m.unit) (changed m r (stripe_at m (k / replicas m) z) (unit_at m (k / replicas m) z)) × (0 < r.length)
unfolding changed
changed_means m r k z c e =
    let s : ℕ = stripe_at m (k / replicas m) z in
    let u : ℕ = unit_at m (k / replicas m) z in
    let b : ℕ = z % m.unit in
    let bl : b < m.unit = mod_below z m.unit c.some_unit in
    elim (cases_lt u (data_units m)) [
      | inl low ↦
          let inside = range_means r (byte_at m (k / replicas m) z) (sym (changed_low m r k z low) ∙ e) in
          let stripe : stripe_of m (unit_start m s u + b) ≡ s = byte_stripe m s u b low bl in (
            rw stripe at (stripe_touched m r (unit_start m s u + b) c inside.0 inside.1),
            rw (lt-ltb u (data_units m) low)
                (range_own m r s u b low bl inside.0 inside.1),
            omega (arith, inside.0, inside.1),
          )
      | inr past ↦
          let t = any_touched m r s b c bl (sym (changed_high m r k z past) ∙ e) in
          (t.0, rw (le-ltb u (data_units m) past) t.1, t.2)
    ]

-- the changed bytes of a component that have an ask's number are those of the ask
only_cells : (m : RawMap) (r : Span) (out : List ℕ) (a : Ask) → IsChecked m → IsForAsk m r out a → (z : ℕ) →
    touches_cell m r a.component z ≡ true → part_of m r a.component z ≡ a.offset → (a.offset ≤ z) × (z < a.offset + a.length)
only_cells m r out a c f z e at =
    let k : ℕ = a.component in
    let p : ℕ = a.component / replicas m in
    let s : ℕ = stripe_at m (a.component / replicas m) z in
    let u : ℕ = unit_at m (a.component / replicas m) z in
    let b : ℕ = z % m.unit in
    let inside = stands_at m a.component c f.below in
    let wide = unit_inside m (a.component / replicas m) z c in
    let means = changed_means m r a.component z c e in
    let part = of_part (changed m r s u) (changed m r s u) b (changed_parts m r s u) means.1 in
    let first : ℕ = interval_start b (changed m r s u) in
    let here : offset_of m s b ≡ z = offset_again m p z c inside in
    let mine = place_is m s u first p a.offset c wide (within_changed m r s u first c part.2)
    (position_again m p z c inside) at in
    let x = f.each 0 f.some in
    let zero_ : a.offset + 0 ≡ a.offset = omega arith in
    let other = place_is m f.stripe f.unit x.0 p a.offset c f.wide (within_changed m r f.stripe f.unit x.0 c x.2)
    (f.position ∙ sym f.component) (x.1 ∙ zero_) in
    let same_s : s ≡ f.stripe = sym mine.0 ∙ other.0 in
    let same_u : u ≡ f.unit = sym mine.1 ∙ other.1 in
    let same_b : first ≡ x.0 = sym mine.2 ∙ other.2 in
    let stop : offset_of m s (interval_end b (changed m r s u)) ≡ a.offset + a.length =
    ap (offset_of m s) part.3 ∙ ap (λ y. offset_of m s (interval_end y (changed m r s u))) same_b
    ∙ ap (λ y. offset_of m y (interval_end x.0 (changed m r y u))) same_s
    ∙ ap (λ y. offset_of m f.stripe (interval_end x.0 (changed m r f.stripe y))) same_u ∙ x.4 in
    (omega (arith, here, at, part.0), omega (arith, here, stop, part.1))

store_right : (m : RawMap) (r : Span) (bytes : List ℕ) (got : List Column) (out : List ℕ) (a : Ask) →
    MayScatter m r bytes got out → 0 < r.length → IsForAsk m r out a →
    IsRightStore m r bytes got out (filled (written m r bytes got out (stripes m r)) a)
store_right m r bytes got out a may some f =
    let c = may.checked in
    let cols = written m r bytes got out (stripes m r) in
    let k : ℕ = a.component in
    let p : ℕ = a.position in
    let long : length (bytes_at cols a.position a.offset a.length) ≡ a.length = length-map-range_with_len
    (byte_got cols a.position) a.offset a.length in
    let open_ : is_out m out a.position ≡ false = ap (is_out m out) (sym f.component) ∙ position_there m out a.component f.there
    in
    let cell = λ (j : ℕ) (lt : j < a.length). (
    let x = f.each j lt in
    place_is m f.stripe f.unit x.0 (a.component / replicas m) (a.offset + j) c f.wide
    (within_changed m r f.stripe f.unit x.0 c x.2) (f.position ∙ sym f.component) x.1) in
    let made : (j : ℕ) → j < a.length → touches_cell m r a.component (a.offset + j) ≡ true =
    λ j lt.
    let x = f.each j lt in
    changed_is m r f.stripe f.unit x.0 a.component (a.offset + j) c some f.touched (cell j lt).0 (cell j lt).1 (cell j lt).2 x.2
    in
    record {
      below = f.below;
      there = f.there;
      some = omega (arith, long, f.some);
      changed = λ j lt. made j (omega (arith, lt, long));
      part = λ j lt.
          let short : j < a.length = omega (arith, lt, long) in
          let x = f.each j short in
          let at = cell j short in
          ap (λ y. offset_of m y (interval_start ((a.offset + j) % m.unit)
          (changed m r y (unit_at m (a.component / replicas m) (a.offset + j))))) at.0
          ∙ ap (λ y. offset_of m f.stripe (interval_start ((a.offset + j) % m.unit) (changed m r f.stripe y))) at.1
          ∙ ap (λ y. offset_of m f.stripe (interval_start y (changed m r f.stripe f.unit))) at.2 ∙ x.3;
      cells = λ z e at. (let t = only_cells m r out a c f z e at in (t.0, omega (arith, t.1, long)));
      each = λ j d lt db fits.
          let short : j < a.length = omega (arith, lt, long) in
          let x = f.each j short in
          let is_got : IsGot cols a.position (a.offset + j) =
          rw (stripes_are m r some, sym x.1) (written_got m r bytes got out (stripe_of m r.offset)
          (stripe_of m (end_of r - 1) + 1 - stripe_of m r.offset) f.stripe f.unit x.0 a.position f.touched.0
          (omega (arith, f.touched.0, f.touched.1)) f.wide f.position open_ x.2) in
          get_or-map-range_with_len (byte_got cols a.position) a.offset a.length j (a.offset + j) 0 short refl
          ∙ got_for m r bytes got out cols a.position (a.offset + j) (written_for m r bytes got out (stripes m r) c) is_got
          ∙ ap (λ q. word_for m r bytes got out q (a.offset + j)) (sym f.component)
          ∙ payloads_are_right m r bytes got out may a.component (a.offset + j) d f.below (made j short) db fits;
    }

all_stores : (m : RawMap) (r : Span) (bytes : List ℕ) (got : List Column) (out : List ℕ) (xs : List Ask) →
    MayScatter m r bytes got out → 0 < r.length → Every (IsForAsk m r out) xs →
    Every (IsRightStore m r bytes got out) (map (filled (written m r bytes got out (stripes m r))) xs)
all_stores m r bytes got out [] may some h = tt
all_stores m r bytes got out (a ∷ xs) may some h =
    (store_right m r bytes got out a may some h.0, all_stores m r bytes got out xs may some h.1)

all_of : {A : Type 0} (P : A → Type 0) (xs : List A) → Every P xs → All P xs
all_of P [] h = λ k d lt. absurd (omega (arith, lt))
all_of P (x ∷ xs) h = λ k d lt. at P x xs h (all_of P xs h.1) d k lt
  where
    at : {A : Type 0} (P : A → Type 0) (x : A) (xs : List A) → Every P (x ∷ xs) → All P xs → (d : A) (k : ℕ) →
        k < length (x ∷ xs) → P (get_or (x ∷ xs) k d)
    at P x xs h rest d zero lt = h.0
    at P x xs h rest d (suc k) lt = rest k d (omega (arith, lt))

carried : (cols : List Column) (xs : List Ask) (k z : ℕ) → IsAsked xs k z → IsCarried (map (filled cols) xs) k z
carried cols [] k z g = absurd g
carried cols (a ∷ xs) k z (inl g) = inl (
  g.0,
  g.1,
  omega (arith, g.2, length-map-range_with_len (byte_got cols a.position) a.offset a.length),
)
carried cols (a ∷ xs) k z (inr g) = inr (carried cols xs k z g)

-- a changed column of a unit is carried to each replica that isn't out
pub unit_carried : (m : RawMap) (r : Span) (bytes : List ℕ) (got : List Column) (out : List ℕ) (s u b k : ℕ) →
    u < group_width m → 0 < r.length → IsTouchedStripe m r s → position_of m s u * replicas m ≤ k →
    k < position_of m s u * replicas m + replicas m → among k out ≡ false → IsWithin b (changed m r s u) →
    IsCarried (stores m r bytes got out) k (offset_of m s b)
unfolding stores
unit_carried m r bytes got out s u b k wide some touched from to there within =
    carried (written m r bytes got out (stripes m r)) (writes m r out) k (offset_of m s b)
    (rw (stripes_are m r some) (all_have m r out (stripe_of m r.offset) (stripe_of m (end_of r - 1) + 1 - stripe_of m r.offset)
    s k (offset_of m s b) touched.0 (omega (arith, touched.0, touched.1))
    (stripe_have m r out s 0 (group_width m) (turned m s u) k (offset_of m s b) (omega arith)
    (omega (arith, turned_below m s u wide))
    (place_have m r out s u b (position_of m s u) k wide refl from to there within))))

each_carried : (m : RawMap) (r : Span) (bytes : List ℕ) (got : List Column) (out : List ℕ) (k z : ℕ) → IsChecked m → k < m.comps →
    among k out ≡ false → touches_cell m r k z ≡ true → IsCarried (stores m r bytes got out) k z
each_carried m r bytes got out k z c below there e =
    let means = changed_means m r k z c e in
    let p : ℕ = k / replicas m in
    let s : ℕ = stripe_at m (k / replicas m) z in
    let u : ℕ = unit_at m (k / replicas m) z in
    let inside = stands_at m k c below in
    let wide = unit_inside m (k / replicas m) z c in
    let whole = div-add-mod' k (replicas m) in
    let rest : k % replicas m < replicas m = mod_below k (replicas m) (omega arith) in
    rw (offset_again m p z c inside) at (unit_carried m r bytes got out s u (z % m.unit) k wide means.2 means.0
    (rw (position_again m p z c inside) (omega (arith, whole)))
    (rw (position_again m p z c inside) (omega (arith, whole, rest))) there means.1)

pub no_asks : (m : RawMap) (r : Span) (out : List ℕ) → asks Scatters m r out [] [] ≡ []
unfolding asks
no_asks m r out = refl

right : (m : RawMap) (r : Span) (bytes : List ℕ) (got : List Column) (out : List ℕ) → MayScatter m r bytes got out →
    All (IsRightStore m r bytes got out) (stores m r bytes got out)
unfolding stores
right m r bytes got out may = elim (cases_lt 0 r.length) [
  | inl some ↦ all_of (IsRightStore m r bytes got out) (map (filled (written m r bytes got out (stripes m r))) (writes m r out))
      (all_stores m r bytes got out (writes m r out) may some
      (rw (stripes_are m r some) (all_asks m r out (stripe_of m r.offset) (stripe_of m (end_of r - 1) + 1 - stripe_of m r.offset)
      may.checked (λ s le lt. (le, omega (arith, lt, le))))))
  | inr none ↦
      let empty : writes m r out ≡ [] = ap (asks Scatters m r out []) (no_stripes m r (omega (arith, none))) ∙ no_asks m r out in
      rw empty (λ k d lt. absurd (omega (arith, lt)))
]

pub stores_are_right : StoresAreRight
stores_are_right m r bytes got out may = (
  right m r bytes got out may,
  λ k z below there e. each_carried m r bytes got out k z
      may.checked below there e,
)
