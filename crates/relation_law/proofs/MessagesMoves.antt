-- What a call does with the drives keeps all that a read or a gather needs got or awaited.
-- Towards `EventsAreLawful` (`specs/Steps.antt`).
use Rattle.std.proofs.Common.{◌≡◌, ℕ, zero, suc, ◌+◌, ◌*◌, ◌/◌, ◌<◌, ◌≤◌, Bool, true, false, List, [], ◌∷◌, ◌++◌, refl, inl, inr, arith}
use Rattle.std.specs.Prelude.{Option, Some, None, filter, if◌then◌else◌}
use Rattle.std.proofs.lemmas.Bool.{cases_Bool}
use Rattle.data_map.specs.declared.check.RawMap.{RawMap}
use Rattle.data_map.specs.Check.{IsChecked}
use Rattle.data_map.specs.Striping.{replicas, positions, group_of, group_width}
use Rattle.data_map.specs.Inverse.{unit_in}
use Rattle.data_map.proofs.Shape.{group_ends}
use Rattle.data_map.proofs.Striping.{unit_below, position_in_range}
use Rattle.stripe_plan.specs.declared.plan.Span.{Span}
use Rattle.stripe_plan.specs.declared.plan.Interval.{Interval}
use Rattle.stripe_plan.specs.declared.plan.Stretch.{Stretch}
use Rattle.stripe_plan.specs.declared.plan.Aim.{Aim}
use Rattle.stripe_plan.specs.declared.plan.Aim.TheVariants.{Reads as ToRead, Gathers as ToGather, Scatters as ToScatter}
use Rattle.stripe_plan.specs.Lost.{among, source_from, source, is_out}
use Rattle.stripe_plan.specs.Asks.{asks_of, asks_source, asks_place, asks_stripe, asks}
use Rattle.server_rules.specs.Laws.{In}
use Rattle.server_rules.proofs.Members.{in_either}
use Rattle.plan_law.proofs.Stores.{components}
use Rattle.plan_law.proofs.Written.{place_at}
use Rattle.client_rules.specs.Commands.{numbered, carrying_none, read_commands, others, not_of}
use Rattle.client_rules.specs.Reads.{probe_of, probe_each, probes_due}
use Rattle.world_history.specs.ClientNames.{Held, Ask, Awaited}
use Rattle.relation_law.proofs.MessagesClients.{IsPlaced, AreReadsUnder}

-- ---- the asks of a plan

abbrev pub ArePlaced : RawMap → List Ask → Type 0
ArePlaced m xs = (a : Ask) → In a xs → IsPlaced m a

more_placed : (m : RawMap) (xs ys : List Ask) → ArePlaced m xs → ArePlaced m ys → ArePlaced m (xs ++ ys)
more_placed m xs ys x y a i = elim (in_either a xs ys i) [ inl l ↦ x a l | inr r ↦ y a r ]

source_at : (out : List ℕ) (k n i : ℕ) → source_from out k n ≡ Some i → (k ≤ i) × (i < k + n)
unfolding source_from
source_at out k zero i e = absurd (cc e)
source_at out k (suc n) i e = elim (cases_Bool (among k out)) [
  | inl gone ↦ let r = source_at out (k + 1) n i (rw gone at e) in (omega (arith, r.0), omega (arith, r.1))
  | inr there ↦ let same : k ≡ i = cc (rw there at e) in (omega (arith, same), omega (arith, same))
]

of_placed : (m : RawMap) (s p k : ℕ) (is : List Interval) → k / replicas m ≡ p → k < m.comps → ArePlaced m (asks_of s p k is)
of_placed m s p k [] at low a i = absurd i
of_placed m s p k (x ∷ is) at low a (inl e) = rw e (record { position = at; below = low })
of_placed m s p k (x ∷ is) at low a (inr i) = of_placed m s p k is at low a i

source_placed : (m : RawMap) (out : List ℕ) (s p : ℕ) (o : Option ℕ) (is : List Interval) → IsChecked m → p < positions m →
    source m out p ≡ o → ArePlaced m (asks_source s p o is)
unfolding source
source_placed m out s p None is ch low e a i = absurd i
source_placed m out s p (Some k) is ch low e a i =
    let at = source_at out (p * replicas m) (replicas m) k e in
    let c = components m p k ch low at.0 at.1 in
    of_placed m s p k is c.0 c.1 a i

-- a plan that reads
abbrev pub IsReading : Aim → Type 0
IsReading ToRead = Unit {0}
IsReading ToGather = Unit {0}
IsReading ToScatter = ⊥

position_low : (m : RawMap) (s i : ℕ) → IsChecked m → i < group_width m → group_of m s * group_width m + i < positions m
position_low m s i ch low =
    rw (place_at m s i low) at (position_in_range m s (unit_in m s i) ch (unit_below m s i low))

place_placed : (aim : Aim) (m : RawMap) (r : Span) (out : List ℕ) (had : List Stretch) (s i : ℕ) → IsReading aim → IsChecked m →
    i < group_width m → ArePlaced m (asks_place aim m r out had s i)
unfolding asks_place
place_placed ToRead m r out had s i is ch low =
    source_placed m out s (group_of m s * group_width m + i) (source m out (group_of m s * group_width m + i)) _ ch
    (position_low m s i ch low) refl
place_placed ToGather m r out had s i is ch low =
    source_placed m out s (group_of m s * group_width m + i) (source m out (group_of m s * group_width m + i)) _ ch
    (position_low m s i ch low) refl
place_placed ToScatter m r out had s i is ch low = absurd is

stripe_placed : (aim : Aim) (m : RawMap) (r : Span) (out : List ℕ) (had : List Stretch) (s i n : ℕ) → IsReading aim →
    IsChecked m →
    i + n ≤ group_width m → ArePlaced m (asks_stripe aim m r out had s i n)
unfolding asks_stripe
stripe_placed aim m r out had s i zero is ch low = λ a x. absurd x
stripe_placed aim m r out had s i (suc n) is ch low =
    more_placed m (asks_place aim m r out had s i) (asks_stripe aim m r out had s (i + 1) n)
    (place_placed aim m r out had s i is ch (omega (arith, low)))
    (stripe_placed aim m r out had s (i + 1) n is ch (omega (arith, low)))

pub plan_placed : (aim : Aim) (m : RawMap) (r : Span) (out : List ℕ) (had : List Stretch) (ss : List ℕ) → IsReading aim →
    IsChecked m →
    ArePlaced m (asks aim m r out had ss)
unfolding asks
plan_placed aim m r out had [] is ch = λ a i. absurd i
plan_placed aim m r out had (s ∷ ss) is ch =
    more_placed m (asks_stripe aim m r out had s 0 (group_width m)) (asks aim m r out had ss)
    (stripe_placed aim m r out had s 0 (group_width m) is ch (omega arith)) (plan_placed aim m r out had ss is ch)

-- ---- the asks of a probe

probe_placed : (h : Held) (out : List ℕ) (p : ℕ) (o : Option ℕ) → IsChecked h.map → p < positions h.map → source h.map out p ≡ o →
    ArePlaced h.map (probe_of h p o)
unfolding source
probe_placed h out p None ch low e a i = absurd i
probe_placed h out p (Some k) ch low e a (inl same) =
    let at = source_at out (p * replicas h.map) (replicas h.map) k e in
    let c = components h.map p k ch low at.0 at.1 in
    rw same (record { position = c.0; below = c.1 })
probe_placed h out p (Some k) ch low e a (inr none) = absurd none

each_placed : (h : Held) (out have : List ℕ) (p n : ℕ) → IsChecked h.map → p + n ≤ positions h.map →
    ArePlaced h.map (probe_each h out have p n)
unfolding probe_each
each_placed h out have p zero ch low = λ a i. absurd i
each_placed h out have p (suc n) ch low =
    more_placed h.map _ (probe_each h out have (p + 1) n) (here (among p have))
    (each_placed h out have (p + 1) n ch (omega (arith, low)))
  where
    here : (b : Bool) → ArePlaced h.map (if b then [] else probe_of h p (source h.map out p))
    here true = λ a i. absurd i
    here false = probe_placed h out p (source h.map out p) ch (omega (arith, low)) refl

pub probes_placed : (h : Held) (out have : List ℕ) (p : ℕ) → IsChecked h.map → p < positions h.map →
    ArePlaced h.map (probes_due h out have p)
unfolding probes_due
probes_placed h out have p ch low = by_out (is_out h.map out p)
  where
    by_out : (b : Bool) → ArePlaced h.map
        (if b then probe_each h out have (p / group_width h.map * group_width h.map) (group_width h.map) else probe_each h
        out have p 1)
    by_out true =
        each_placed h out have (p / group_width h.map * group_width h.map) (group_width h.map) ch (group_ends h.map p ch low)
    by_out false = each_placed h out have p 1 ch (omega (arith, low))

-- ---- commands

numbered_under : (h : Held) (count : ℕ) (xs : List Ask) → ArePlaced h.map xs →
    AreReadsUnder h (numbered h false count (carrying_none xs))
unfolding numbered
numbered_under h count [] p a i = absurd i
numbered_under h count (x ∷ xs) p a (inl e) = record {
  store = record { ask = x; bytes = [] };
  nonce = _;
  is = e;
  placed = p x (inl refl);
}
numbered_under h count (x ∷ xs) p a (inr i) = numbered_under h (count + 1) xs (λ b j. p b (inr j)) a i

pub commands_under : (h : Held) (xs : List Ask) → ArePlaced h.map xs → AreReadsUnder h (read_commands h xs)
unfolding read_commands
commands_under h xs p = numbered_under h h.count xs p

pub more_under : (h : Held) (xs ys : List Awaited) → AreReadsUnder h xs → AreReadsUnder h ys → AreReadsUnder h (xs ++ ys)
more_under h xs ys x y a i = elim (in_either a xs ys i) [ inl l ↦ x a l | inr r ↦ y a r ]

some_in : {A : Type 0} (p : A → Bool) (xs : List A) (a : A) → In a (filter p xs) → In a xs
some_in p [] a i = i
some_in p (x ∷ xs) a i = elim (cases_Bool (p x)) [
  | inl t ↦ elim (rw t at i) [ inl e ↦ inl e | inr o ↦ inr (some_in p xs a o) ]
  | inr f ↦ inr (some_in p xs a (rw f at i))
]

pub others_under : (h : Held) (xs : List Awaited) (nonce : ℕ) → AreReadsUnder h xs → AreReadsUnder h (others xs nonce)
unfolding others
others_under h xs nonce x a i = x a (some_in _ xs a i)

pub rest_under : (h : Held) (xs : List Awaited) (k : ℕ) → AreReadsUnder h xs → AreReadsUnder h (not_of k xs)
unfolding not_of
rest_under h xs k x a i = x a (some_in _ xs a i)
