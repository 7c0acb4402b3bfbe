-- How many WRITEs a scatter sends: each that its plan has, once.
use Rattle.std.proofs.Common.{◌≡◌, ◌≤◌, ℕ, zero, suc, ◌+◌, ◌*◌, ◌==◌, true, List, [], ◌∷◌, length, refl, ap, inl, inr, arith}
use Rattle.std.proofs.lemmas.Bool.{cases_Bool}
use Rattle.std.proofs.lemmas.List.{length-append, length-map}
use Rattle.std.specs.Prelude.{nat_lt}
use Rattle.data_map.specs.declared.check.RawMap.{RawMap}
use Rattle.data_map.specs.Check.{IsChecked}
use Rattle.data_map.specs.Inverse.{unit_in}
use Rattle.data_map.specs.Striping.{replicas, group_width, group_of}
use Rattle.stripe_plan.specs.declared.plan.Interval.{Interval}
use Rattle.stripe_plan.specs.declared.plan.Aim.TheVariants.{Scatters}
use Rattle.stripe_plan.specs.Touched.{stripes}
use Rattle.stripe_plan.specs.Lost.{among}
use Rattle.stripe_plan.specs.Asks.{some_of, at_row, at_rows, without, without_each, asks_of, asks_each, asks_place, asks_stripe, asks, needed}
use Rattle.stripe_plan.specs.Plans.{filled, written, stores}
use Rattle.load_law.specs.ClientState.{Held, Span, Ask, Column, Store}
use Rattle.client_rules.specs.Commands.{numbered, write_commands}
use Rattle.client_rules.specs.Writes.{firsts, laters, next_to, without_next, without_component}
use Rattle.load_law.proofs.Lists.{by_test}
use Rattle.load_law.proofs.Columns.{few_columns, needed_is}
use Rattle.load_law.proofs.Plans.{group_few, each_few}

-- ---- the plan

-- no interval is cut
some_few : (i : Interval) → length (some_of i) ≤ 1
some_few i = by_test (λ (is : List Interval). length is ≤ 1) (nat_lt i.first i.end) _ _ (omega arith) (omega arith)

uncut_few : (p : ℕ) (is : List Interval) → length (without_each [] p is) ≤ length is
unfolding without_each without
uncut_few p [] = omega arith
uncut_few p (i ∷ is) =
    omega (arith, length-append (some_of i) (without_each [] p is), some_few i, uncut_few p is)

needed_few : (m : RawMap) (r : Span) (out : List ℕ) (s c : ℕ) → length (needed Scatters m r out s c) ≤ 2
needed_few m r out s c =
    needed_is (λ (is : List Interval). length is ≤ 2) m r out s c (omega arith) (λ less t. omega arith)
    (few_columns m r s) Scatters

each_asked : (out : List ℕ) (s p k n : ℕ) (is : List Interval) → length is ≤ 2
    → length (asks_each out s p k n is) ≤ 2 * n
unfolding asks_each
each_asked out s p k zero is few = omega arith
each_asked out s p k (suc n) is few =
    let rest : length (asks_each out s p (k + 1) n is) ≤ 2 * n = each_asked out s p (k + 1) n is few in
    by_test (λ (xs : List Ask). length xs ≤ 2 * suc n) (among k out) _ _ (omega (arith, rest))
    (omega (arith, rest, few, length-append (asks_of s p k is) (asks_each out s p (k + 1) n is), asks_long s p k is))
  where
    asks_long : (s p k : ℕ) (is : List Interval) → length (asks_of s p k is) ≡ length is
    asks_long s p k [] = refl
    asks_long s p k (i ∷ is) = ap suc (asks_long s p k is)

-- one piece more
more : (n l x y all : ℕ) → all ≡ x + y → x ≤ n → y ≤ n * l → all ≤ n * suc l
more n l x y all is a b = omega (arith, is, a, b)

module _ (m : RawMap) (r : Span) (out : List ℕ) where
  place_few : (s i : ℕ) → length (asks_place Scatters m r out [] s i) ≤ 2 * replicas m
  unfolding asks_place
  place_few s i =
      let p : ℕ = group_of m s * group_width m + i in
      let is : List Interval = at_rows m s (needed Scatters m r out s (unit_in m s i)) in
      each_asked out s p (p * replicas m) (replicas m) (without_each [] p is)
      (omega (
        arith,
        uncut_few p is,
        length-map (needed Scatters m r out s (unit_in m s i)) (at_row m s),
        needed_few m r out s (unit_in m s i),
      ))

  stripe_few : (s i n : ℕ) → length (asks_stripe Scatters m r out [] s i n) ≤ 2 * replicas m * n
  unfolding asks_stripe
  stripe_few s i zero = omega arith
  stripe_few s i (suc n) =
      more (2 * replicas m) n _ _ _
      (length-append (asks_place Scatters m r out [] s i) (asks_stripe Scatters m r out [] s (i + 1) n)) (place_few s i)
      (stripe_few s (i + 1) n)

  asked_few : (ss : List ℕ) → length (asks Scatters m r out [] ss) ≤ 2 * replicas m * group_width m * length ss
  unfolding asks
  asked_few [] = omega arith
  asked_few (s ∷ ss) =
      more (2 * replicas m * group_width m) (length ss) _ _ _
      (length-append (asks_stripe Scatters m r out [] s 0 (group_width m)) (asks Scatters m r out [] ss))
      (stripe_few s 0 (group_width m)) (asked_few ss)

-- at most two for each component and each stripe
pub few_stores : (m : RawMap) (r : Span) (bytes : List ℕ) (got : List Column) (out : List ℕ) → IsChecked m
    → length (stores m r bytes got out) ≤ 2 * m.comps * length (stripes m r)
unfolding stores
few_stores m r bytes got out ch =
    rw (length-map (asks Scatters m r out [] (stripes m r)) (filled (written m r bytes got out (stripes m r))))
    (each_few 2 m.comps (group_width m) (replicas m) (length (stripes m r)) (length (asks Scatters m r out [] (stripes m r)))
    (group_few m ch) (asked_few m r out (stripes m r)))

-- ---- what is sent of it

numbered_long : (h : Held) (count : ℕ) (ws : List Store) → length (numbered h true count ws) ≡ length ws
unfolding numbered
numbered_long h count [] = refl
numbered_long h count (w ∷ ws) = ap suc (numbered_long h (count + 1) ws)

pub writes_long : (h : Held) (ws : List Store) → length (write_commands h ws) ≡ length ws
unfolding write_commands
writes_long h ws = numbered_long h h.count ws

-- the first to each component, and the others, are all
pub firsts_laters : (seen : List ℕ) (ws : List Store) → length (firsts seen ws) + length (laters seen ws) ≡ length ws
unfolding firsts laters
firsts_laters seen [] = refl
firsts_laters seen (w ∷ ws) = elim (cases_Bool (among w.ask.component seen)) [
  | inl t ↦ rw t (omega (arith, firsts_laters seen ws))
  | inr f ↦ rw f (omega (arith, firsts_laters (w.ask.component ∷ seen) ws))
]

-- the next to a component, and the queue without it, are the queue
pub next_rest : (k : ℕ) (ws : List Store) → length (next_to k ws) + length (without_next k ws) ≡ length ws
unfolding next_to without_next
next_rest k [] = refl
next_rest k (w ∷ ws) = elim (cases_Bool (w.ask.component == k)) [
  | inl t ↦ rw t (omega arith)
  | inr f ↦ rw f (omega (arith, next_rest k ws))
]

pub without_fewer : (k : ℕ) (ws : List Store) → length (without_component k ws) ≤ length ws
unfolding without_component
without_fewer k [] = omega arith
without_fewer k (w ∷ ws) = elim (cases_Bool (w.ask.component == k)) [
  | inl t ↦ rw t (omega (arith, without_fewer k ws))
  | inr f ↦ rw f (omega (arith, without_fewer k ws))
]
