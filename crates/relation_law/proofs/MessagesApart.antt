-- No two WRITEs of a scatter are for one part of one component.
-- Towards `EventsAreLawful` (`specs/Steps.antt`).
use Rattle.std.proofs.Common.{◌≡◌, ℕ, zero, suc, ◌+◌, ◌-◌, ◌*◌, ◌/◌, ◌%◌, ◌<◌, ◌≤◌, List, [], ◌∷◌, ◌++◌, map, refl, sym, ap, ◌∙◌, inl, inr, arith}
use Rattle.std.specs.Prelude.{nat_lt, nat_le}
use Rattle.std.specs.List.{range_with_len}
use Rattle.std.proofs.lemmas.Bool.{cases_Bool, cases_lt, lt-ltb, le-ltb}
use Rattle.std.proofs.Math.Nat.{add-mul, mul-le-mul_right}
use Rattle.data_map.specs.declared.check.RawMap.{RawMap}
use Rattle.data_map.specs.Check.{IsChecked}
use Rattle.data_map.specs.Striping.{replicas, group_of, group_width, data_units, stripe_of, offset_of}
use Rattle.data_map.specs.Inverse.{stripe_at, unit_in}
use Rattle.stripe_plan.specs.declared.plan.Span.{Span}
use Rattle.stripe_plan.specs.declared.plan.Interval.{Interval}
use Rattle.stripe_plan.specs.declared.plan.Column.{Column}
use Rattle.stripe_plan.specs.declared.plan.Ask.{Ask}
use Rattle.stripe_plan.specs.declared.plan.Store.{Store}
use Rattle.stripe_plan.specs.declared.plan.Aim.TheVariants.{Scatters}
use Rattle.stripe_plan.specs.Touched.{end_of, stripes, touches, columns, columns_between, low, high}
use Rattle.stripe_plan.specs.Lost.{among}
use Rattle.stripe_plan.specs.Asks.{own_columns, changed, at_rows, without, without_each, asks_of, asks_each, asks_place, asks_stripe, asks}
use Rattle.stripe_plan.specs.Plans.{writes, written, filled, stores}
use Rattle.stripe_plan.proofs.ReadLaws.{stripes_are}
use Rattle.stripe_plan.proofs.WriteFollows.{within_changed}
use Rattle.server_rules.specs.Laws.{In}
use Rattle.server_rules.proofs.Members.{in_either, in_front, in_behind}
use Rattle.plan_law.proofs.Stores.{IsForAsk, all_asks}
use Rattle.plan_law.proofs.Intervals.{Every}
use Rattle.plan_law.proofs.Written.{place_is}
use Rattle.file_simulation.specs.Calls.{PartsDiffer}

-- ---- asks

-- no two of these are for one offset of one component
abbrev AsksDiffer : List Ask → Type 0
AsksDiffer [] = Unit {0}
AsksDiffer (a ∷ xs) =
    ((b : Ask) → In b xs → b.component ≡ a.component → b.offset ≡ a.offset → ⊥) × AsksDiffer xs

differ_append : (xs ys : List Ask) → AsksDiffer xs → AsksDiffer ys →
    ((a b : Ask) → In a xs → In b ys → b.component ≡ a.component → b.offset ≡ a.offset → ⊥) → AsksDiffer (xs ++ ys)
differ_append [] ys x y n = y
differ_append (a ∷ xs) ys x y n = (
  λ b i e f. elim (in_either b xs ys i) [ inl l ↦ x.0 b l e f | inr r ↦ n a b (inl refl) r e f ],
  differ_append xs ys x.1 y (λ c d i j. n c d (inr i) j),
)

-- ---- intervals

-- no two of these begin at one place
abbrev FirstsDiffer : List Interval → Type 0
FirstsDiffer [] = Unit {0}
FirstsDiffer (i ∷ is) = ((j : Interval) → In j is → j.first ≡ i.first → ⊥) × FirstsDiffer is

between_differ : (unit a b : ℕ) → FirstsDiffer (columns_between unit a b)
unfolding columns_between
between_differ unit a b = elim (cases_Bool (nat_le unit (b - a))) [
  | inl whole ↦ rw whole (λ j i e. i, tt)
  | inr part ↦ elim (cases_lt (a % unit) ((b - 1) % unit + 1)) [
    | inl one ↦ rw (part, lt-ltb (a % unit) ((b - 1) % unit + 1) one) (λ j i e. i, tt)
    | inr two ↦ rw (part, le-ltb (a % unit) ((b - 1) % unit + 1) two) (
      λ j i e. elim i [
        | inl same ↦
            other (a % unit) ((b - 1) % unit) two (sym (ap (λ (x : Interval). x.first) same) ∙ e)
        | inr none ↦ none
      ],
      (λ j i e. i, tt),
    )
  ]
]
  where
    other : (x y : ℕ) → y + 1 ≤ x → x ≡ 0 → ⊥
    other x y l e = absurd (omega (arith, l, e))

changed_differ : (m : RawMap) (r : Span) (s c : ℕ) → FirstsDiffer (changed m r s c)
unfolding changed own_columns columns
changed_differ m r s c = elim (cases_Bool (nat_lt c (data_units m))) [
  | inl data_ ↦ elim (cases_Bool (touches m r s c)) [
    | inl t ↦ rw (data_, t) (λ j i e. i, tt)
    | inr f ↦ rw (data_, f) tt
  ]
  | inr parity ↦ rw parity (between_differ m.unit (low m r s) (high m r s))
]

-- what is asked of rows begins where they do
rows_begin : (m : RawMap) (s p : ℕ) (is : List Interval) (j : Interval) → In j (without_each [] p (at_rows m s is)) →
    (i : Interval) × In i is × (j.first ≡ offset_of m s i.first)
unfolding without_each without
rows_begin m s p [] j n = absurd n
rows_begin m s p (i ∷ is) j n = elim (cases_Bool (nat_lt (offset_of m s i.first) (offset_of m s i.end))) [
  | inl some ↦ elim (rw some at n) [
    | inl e ↦ (i, inl refl, ap (λ (x : Interval). x.first) e)
    | inr o ↦ let r = rows_begin m s p is j o in (r.0, inr r.1, r.2)
  ]
  | inr none ↦ let r = rows_begin m s p is j (rw none at n) in (r.0, inr r.1, r.2)
]

rows_differ : (m : RawMap) (s p : ℕ) (is : List Interval) → FirstsDiffer is → FirstsDiffer (without_each [] p (at_rows m s is))
unfolding without_each without
rows_differ m s p [] d = tt
rows_differ m s p (i ∷ is) d = elim (cases_Bool (nat_lt (offset_of m s i.first) (offset_of m s i.end))) [
  | inl some ↦ rw some (
    λ j n e. (let r = rows_begin m s p is j n in d.0 r.0 r.1 (omega (arith, r.2, e))),
    rows_differ m s p is d.1,
  )
  | inr none ↦ rw none (rows_differ m s p is d.1)
]

-- ---- one component

in_asks_of : (s p k : ℕ) (is : List Interval) (b : Ask) → In b (asks_of s p k is) →
    (i : Interval) × In i is × (b.offset ≡ i.first) × (b.component ≡ k) × (b.stripe ≡ s)
in_asks_of s p k [] b n = absurd n
in_asks_of s p k (i ∷ is) b (inl e) =
    (i, inl refl, ap (λ (x : Ask). x.offset) e, ap (λ (x : Ask). x.component) e, ap (λ (x : Ask). x.stripe) e)
in_asks_of s p k (i ∷ is) b (inr n) = let r = in_asks_of s p k is b n in (r.0, inr r.1, r.2, r.3, r.4)

of_differ : (s p k : ℕ) (is : List Interval) → FirstsDiffer is → AsksDiffer (asks_of s p k is)
of_differ s p k [] d = tt
of_differ s p k (i ∷ is) d = (
  λ b n e f. (let r = in_asks_of s p k is b n in d.0 r.0 r.1 (sym r.2 ∙ f)),
  of_differ s p k is d.1,
)

-- ---- the components of a position

in_asks_each : (out : List ℕ) (s p k n : ℕ) (is : List Interval) (b : Ask) → In b (asks_each out s p k n is) →
    (k ≤ b.component) × (b.component < k + n) × (b.stripe ≡ s)
unfolding asks_each
in_asks_each out s p k zero is b i = absurd i
in_asks_each out s p k (suc n) is b i = elim (cases_Bool (among k out)) [
  | inl gone ↦ let r = in_asks_each out s p (k + 1) n is b (rw gone at i) in (omega (arith, r.0), omega (arith, r.1), r.2)
  | inr there ↦ elim (in_either b (asks_of s p k is) (asks_each out s p (k + 1) n is) (rw there at i)) [
    | inl x ↦ let r = in_asks_of s p k is b x in (omega (arith, r.3), omega (arith, r.3), r.4)
    | inr y ↦ let r = in_asks_each out s p (k + 1) n is b y in (omega (arith, r.0), omega (arith, r.1), r.2)
  ]
]

each_differ : (out : List ℕ) (s p k n : ℕ) (is : List Interval) → FirstsDiffer is → AsksDiffer (asks_each out s p k n is)
unfolding asks_each
each_differ out s p k zero is d = tt
each_differ out s p k (suc n) is d = elim (cases_Bool (among k out)) [
  | inl gone ↦ rw gone (each_differ out s p (k + 1) n is d)
  | inr there ↦ rw there (differ_append (asks_of s p k is) (asks_each out s p (k + 1) n is) (of_differ s p k is d)
      (each_differ out s p (k + 1) n is d)
      (λ a b i j e f. (let x = in_asks_of s p k is a i in let y = in_asks_each out s p (k + 1) n is b j in
      absurd (omega (arith, x.3, y.0, e)))))
]

-- ---- the places of a stripe

in_asks_stripe : (m : RawMap) (r : Span) (out : List ℕ) (s i n : ℕ) (b : Ask) → In b (asks_stripe Scatters m r out [] s i n) →
    (t : ℕ) × (i ≤ t) × (t < i + n) × ((group_of m s * group_width m + t) * replicas m ≤ b.component) ×
    (b.component < (group_of m s * group_width m + t) * replicas m + replicas m) × (b.stripe ≡ s)
unfolding asks_stripe asks_place
in_asks_stripe m r out s i zero b n = absurd n
in_asks_stripe m r out s i (suc k) b n =
    elim (in_either b (asks_place Scatters m r out [] s i) (asks_stripe Scatters m r out [] s (i + 1) k) n) [
      | inl x ↦
          let p : ℕ = group_of m s * group_width m + i in
          let y =
          in_asks_each out s p (p * replicas m) (replicas m)
          (without_each [] p (at_rows m s (changed m r s (unit_in m s i)))) b x in
          (i, omega arith, omega arith, y.0, y.1, y.2)
      | inr x ↦ let y = in_asks_stripe m r out s (i + 1) k b x in (y.0, omega (arith, y.1), omega (arith, y.2), y.3, y.4, y.5)
    ]

stripe_differ : (m : RawMap) (r : Span) (out : List ℕ) (s i n : ℕ) → AsksDiffer (asks_stripe Scatters m r out [] s i n)
unfolding asks_stripe asks_place
stripe_differ m r out s i zero = tt
stripe_differ m r out s i (suc n) =
    let p : ℕ = group_of m s * group_width m + i in
    differ_append (asks_place Scatters m r out [] s i) (asks_stripe Scatters m r out [] s (i + 1) n)
    (each_differ out s p (p * replicas m) (replicas m) (without_each [] p (at_rows m s (changed m r s (unit_in m s i))))
    (rows_differ m s p (changed m r s (unit_in m s i)) (changed_differ m r s (unit_in m s i))))
    (stripe_differ m r out s (i + 1) n)
    (λ a b x y e f.
    (let u =
    in_asks_each out s p (p * replicas m) (replicas m)
    (without_each [] p (at_rows m s (changed m r s (unit_in m s i)))) a x in
    let v = in_asks_stripe m r out s (i + 1) n b y in
    let more : (p + 1) * replicas m ≤ (group_of m s * group_width m + v.0) * replicas m =
    mul-le-mul_right (replicas m) (up (group_of m s * group_width m) i v.0 v.1) in
    let next : (p + 1) * replicas m ≡ p * replicas m + replicas m = add-mul p 1 (replicas m) ∙ omega arith in
    absurd (omega (arith, u.1, v.3, e, more, next))))
  where
    up : (g i t : ℕ) → i + 1 ≤ t → g + i + 1 ≤ g + t
    up g i t l = omega (arith, l)

-- ---- the stripes

in_asks : (m : RawMap) (r : Span) (out : List ℕ) (a n : ℕ) (b : Ask) → In b (asks Scatters m r out [] (range_with_len a n)) →
    a ≤ b.stripe
unfolding asks
in_asks m r out a zero b i = absurd i
in_asks m r out a (suc n) b i =
    elim
    (in_either b (asks_stripe Scatters m r out [] a 0 (group_width m)) (asks Scatters m r out [] (range_with_len (a + 1) n)) i) [
      | inl x ↦ let y = in_asks_stripe m r out a 0 (group_width m) b x in omega (arith, y.5)
      | inr x ↦ let y = in_asks m r out (a + 1) n b x in omega (arith, y)
    ]

-- the stripe of an ask is that of its place
abbrev IsPlaced : RawMap → Ask → Type 0
IsPlaced m a = stripe_at m (a.component / replicas m) a.offset ≡ a.stripe

asks_differ : (m : RawMap) (r : Span) (out : List ℕ) (a n : ℕ) →
    ((b : Ask) → In b (asks Scatters m r out [] (range_with_len a n)) → IsPlaced m b) →
    AsksDiffer (asks Scatters m r out [] (range_with_len a n))
unfolding asks
asks_differ m r out a zero placed = tt
asks_differ m r out a (suc n) placed =
    let xs : List Ask = asks_stripe Scatters m r out [] a 0 (group_width m) in
    let ys : List Ask = asks Scatters m r out [] (range_with_len (a + 1) n) in
    differ_append xs ys (stripe_differ m r out a 0 (group_width m))
    (asks_differ m r out (a + 1) n (λ b i. placed b (in_behind b xs ys i)))
    (λ b c x y e f.
    (let u = in_asks_stripe m r out a 0 (group_width m) b x in
    let v = in_asks m r out (a + 1) n c y in
    let one = placed b (in_front b xs ys x) in
    let two = placed c (in_behind c xs ys y) in
    let same : stripe_at m (c.component / replicas m) c.offset ≡ stripe_at m (b.component / replicas m) b.offset =
    ap (λ (k : ℕ). stripe_at m (k / replicas m) c.offset) e ∙ ap (stripe_at m (b.component / replicas m)) f in
    absurd (omega (arith, u.5, v, sym two ∙ same ∙ one))))

every_in : (P : Ask → Type 0) (xs : List Ask) (a : Ask) → Every P xs → In a xs → P a
every_in P [] a h i = absurd i
every_in P (x ∷ xs) a h (inl e) = rw e h.0
every_in P (x ∷ xs) a h (inr i) = every_in P xs a h.1 i

ask_placed : (m : RawMap) (r : Span) (out : List ℕ) (a : Ask) → IsChecked m → IsForAsk m r out a → IsPlaced m a
ask_placed m r out a c f =
    let x = f.each 0 f.some in
    let zero_ : a.offset + 0 ≡ a.offset = omega arith in
    (place_is m f.stripe f.unit x.0 (a.component / replicas m) a.offset c f.wide (within_changed m r f.stripe f.unit x.0 c x.2)
    (f.position ∙ sym f.component) (x.1 ∙ zero_)).0 ∙ sym f.told

-- ---- Stores

filled_in : (cols : List Column) (xs : List Ask) (w : Store) → In w (map (filled cols) xs) → In w.ask xs
filled_in cols [] w i = i
filled_in cols (a ∷ xs) w (inl e) = inl (ap (λ (v : Store). v.ask) e)
filled_in cols (a ∷ xs) w (inr i) = inr (filled_in cols xs w i)

filled_differ : (cols : List Column) (xs : List Ask) → AsksDiffer xs → PartsDiffer (map (filled cols) xs)
filled_differ cols [] d = tt
filled_differ cols (a ∷ xs) d = (λ q i e f. d.0 q.ask (filled_in cols xs q i) e f, filled_differ cols xs d.1)

pub stores_differ : (m : RawMap) (r : Span) (bytes : List ℕ) (got : List Column) (out : List ℕ) → IsChecked m → 0 < r.length →
    PartsDiffer (stores m r bytes got out)
unfolding stores
stores_differ m r bytes got out c some =
    let a : ℕ = stripe_of m r.offset in
    let n : ℕ = stripe_of m (end_of r - 1) + 1 - stripe_of m r.offset in
    let every = all_asks m r out a n c (λ s le lt. (le, omega (arith, lt, le))) in
    filled_differ (written m r bytes got out (stripes m r)) (writes m r out)
    (rw (stripes_are m r some) (asks_differ m r out a n
    (λ b i. ask_placed m r out b c (every_in (IsForAsk m r out) (asks Scatters m r out [] (range_with_len a n)) b every i))))
