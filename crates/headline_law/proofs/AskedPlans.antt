-- Each ask of a plan goes to a component of the position that it asks.
-- Towards `EachAskIsPlaced` (`headline_law/specs/Reads.antt`).
use Rattle.std.proofs.Common.{◌≡◌, ◌<◌, ◌≤◌, ◌+◌, ◌-◌, ◌*◌, ◌/◌, ◌++◌, ℕ, zero, suc, Bool, true, false, List, [], ◌∷◌, map, Option, Some, None, refl, ap, ◌∙◌, inl, inr, arith, if◌then◌else◌}
use Rattle.std.proofs.lemmas.Nat.{div-mul-add}
use Rattle.data_map.specs.declared.check.RawMap.{RawMap}
use Rattle.data_map.specs.Striping.{replicas, group_of, group_width}
use Rattle.stripe_plan.specs.declared.plan.Span.{Span}
use Rattle.stripe_plan.specs.declared.plan.Interval.{Interval}
use Rattle.stripe_plan.specs.declared.plan.Stretch.{Stretch}
use Rattle.stripe_plan.specs.declared.plan.Column.{Column}
use Rattle.stripe_plan.specs.declared.plan.Aim.{Aim}
use Rattle.stripe_plan.specs.declared.plan.Aim.TheVariants.{Reads as ToRead, Gathers as ToGather, Scatters as ToScatter}
use Rattle.stripe_plan.specs.Lost.{among, source, is_out}
use Rattle.stripe_plan.specs.Asks.{asks_of, asks_source, asks_each, asks_place, asks_stripe, asks}
use Rattle.stripe_plan.specs.Plans.{filled, stores}
use Rattle.server_rules.specs.Laws.{In}
use Rattle.server_rules.proofs.Members.{in_either}
use Rattle.client_rules.specs.Reads.{probe_of, probe_each, probes_due}
use Rattle.world_history.specs.ClientNames.{Held, Ask, Store}
use Rattle.exchange_law.proofs.Plans.{source_found}
use Rattle.plan_law.specs.FileLayout.{position_in}

-- an ask goes to a component of its position
abbrev pub IsAtPosition : RawMap → Ask → Type 0
IsAtPosition m a = position_in m a.component ≡ a.position

abbrev pub AreAtPosition : RawMap → List Ask → Type 0
AreAtPosition m xs = (a : Ask) → In a xs → IsAtPosition m a

more_asks : (m : RawMap) (xs ys : List Ask) → AreAtPosition m xs → AreAtPosition m ys → AreAtPosition m (xs ++ ys)
more_asks m xs ys x y a i = elim (in_either a xs ys i) [ inl l ↦ x a l | inr r ↦ y a r ]

-- ---- one position

-- the components of a position
replica_of : (m : RawMap) (p k : ℕ) → p * replicas m ≤ k → k < p * replicas m + replicas m → position_in m k ≡ p
replica_of m p k from to =
    let at : k ≡ p * replicas m + (k - p * replicas m) = omega (arith, from) in
    ap (λ (n : ℕ). n / replicas m) at ∙ div-mul-add p (replicas m) (k - p * replicas m) (omega (arith, from, to))

of_asks : (m : RawMap) (s p k : ℕ) (is : List Interval) → position_in m k ≡ p → AreAtPosition m (asks_of s p k is)
of_asks m s p k [] at a i = absurd i
of_asks m s p k (x ∷ is) at a (inl e) = rw e at
of_asks m s p k (x ∷ is) at a (inr i) = of_asks m s p k is at a i

source_asks : (m : RawMap) (out : List ℕ) (s p : ℕ) (o : Option ℕ) (is : List Interval) → source m out p ≡ o →
    AreAtPosition m (asks_source s p o is)
unfolding source
source_asks m out s p None is e a i = absurd i
source_asks m out s p (Some k) is e a i =
    let found = source_found out (p * replicas m) (replicas m) k e in
    of_asks m s p k is (replica_of m p k found.0 found.1) a i

each_asks : (m : RawMap) (out : List ℕ) (s p k n : ℕ) (is : List Interval) → p * replicas m ≤ k →
    k + n ≤ p * replicas m + replicas m → AreAtPosition m (asks_each out s p k n is)
unfolding asks_each
each_asks m out s p k zero is from to = λ a i. absurd i
each_asks m out s p k (suc n) is from to =
    let rest = each_asks m out s p (k + 1) n is (omega (arith, from)) (omega (arith, to)) in
    by_out (among k out) rest
  where
    by_out : (b : Bool) → AreAtPosition m (asks_each out s p (k + 1) n is) →
        AreAtPosition m (if b then asks_each out s p (k + 1) n is else asks_of s p k is ++ asks_each out s p (k + 1) n is)
    by_out true rest = rest
    by_out false rest =
        more_asks m (asks_of s p k is) (asks_each out s p (k + 1) n is)
        (of_asks m s p k is (replica_of m p k from (omega (arith, to)))) rest

-- ---- plans

place_asks : (aim : Aim) (m : RawMap) (r : Span) (out : List ℕ) (had : List Stretch) (s i : ℕ) →
    AreAtPosition m (asks_place aim m r out had s i)
unfolding asks_place
place_asks ToRead m r out had s i =
    source_asks m out s (group_of m s * group_width m + i) (source m out (group_of m s * group_width m + i)) _ refl
place_asks ToGather m r out had s i =
    source_asks m out s (group_of m s * group_width m + i) (source m out (group_of m s * group_width m + i)) _ refl
place_asks ToScatter m r out had s i =
    each_asks m out s (group_of m s * group_width m + i) ((group_of m s * group_width m + i) * replicas m) (replicas m) _
    (omega arith) (omega arith)

stripe_asks : (aim : Aim) (m : RawMap) (r : Span) (out : List ℕ) (had : List Stretch) (s i n : ℕ) →
    AreAtPosition m (asks_stripe aim m r out had s i n)
unfolding asks_stripe
stripe_asks aim m r out had s i zero = λ a x. absurd x
stripe_asks aim m r out had s i (suc n) =
    more_asks m (asks_place aim m r out had s i) (asks_stripe aim m r out had s (i + 1) n) (place_asks aim m r out had s i)
    (stripe_asks aim m r out had s (i + 1) n)

pub plan_asks : (aim : Aim) (m : RawMap) (r : Span) (out : List ℕ) (had : List Stretch) (ss : List ℕ) →
    AreAtPosition m (asks aim m r out had ss)
unfolding asks
plan_asks aim m r out had [] = λ a i. absurd i
plan_asks aim m r out had (s ∷ ss) =
    more_asks m (asks_stripe aim m r out had s 0 (group_width m)) (asks aim m r out had ss)
    (stripe_asks aim m r out had s 0 (group_width m)) (plan_asks aim m r out had ss)

-- so do the WRITEs of a scatter
abbrev pub AreStoredAtPosition : RawMap → List Store → Type 0
AreStoredAtPosition m ws = (q : Store) → In q ws → IsAtPosition m q.ask

filled_asks : (m : RawMap) (cols : List Column) (xs : List Ask) → AreAtPosition m xs →
    AreStoredAtPosition m (map (filled cols) xs)
filled_asks m cols [] at q i = absurd i
filled_asks m cols (x ∷ xs) at q (inl e) = rw e (at x (inl refl))
filled_asks m cols (x ∷ xs) at q (inr i) = filled_asks m cols xs (λ a j. at a (inr j)) q i

pub stores_asks : (m : RawMap) (r : Span) (bytes : List ℕ) (got : List Column) (out : List ℕ) →
    AreStoredAtPosition m (stores m r bytes got out)
unfolding stores
stores_asks m r bytes got out = filled_asks m _ _ (plan_asks ToScatter m r out [] _)

-- ---- probes

probe_asks : (h : Held) (out : List ℕ) (p : ℕ) (o : Option ℕ) → source h.map out p ≡ o → AreAtPosition h.map (probe_of h p o)
unfolding source
probe_asks h out p None e a i = absurd i
probe_asks h out p (Some k) e a (inl same) =
    let found = source_found out (p * replicas h.map) (replicas h.map) k e in
    rw same (replica_of h.map p k found.0 found.1)
probe_asks h out p (Some k) e a (inr none) = absurd none

each_probe : (h : Held) (out have : List ℕ) (p n : ℕ) → AreAtPosition h.map (probe_each h out have p n)
unfolding probe_each
each_probe h out have p zero = λ a i. absurd i
each_probe h out have p (suc n) =
    more_asks h.map _ (probe_each h out have (p + 1) n) (here (among p have)) (each_probe h out have (p + 1) n)
  where
    here : (b : Bool) → AreAtPosition h.map (if b then [] else probe_of h p (source h.map out p))
    here true = λ a i. absurd i
    here false = probe_asks h out p (source h.map out p) refl

pub probes_asks : (h : Held) (out have : List ℕ) (p : ℕ) → AreAtPosition h.map (probes_due h out have p)
unfolding probes_due
probes_asks h out have p = by_out (is_out h.map out p)
  where
    by_out : (b : Bool) → AreAtPosition h.map
        (if b then probe_each h out have (p / group_width h.map * group_width h.map) (group_width h.map)
        else probe_each h out have p 1)
    by_out true = each_probe h out have (p / group_width h.map * group_width h.map) (group_width h.map)
    by_out false = each_probe h out have p 1
