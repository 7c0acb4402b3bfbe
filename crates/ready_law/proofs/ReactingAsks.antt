-- What a call asks where it can leave out what is lost: of listed components that aren't out, and no WRITE past its last one.
use Rattle.std.proofs.Common.{◌≡◌, ◌≤◌, ◌<◌, ℕ, zero, suc, ◌+◌, ◌*◌, ◌/◌, ◌==◌, true, false, List, [], ◌∷◌, Option, Some, None, length, is_some, slice_get, refl, sym, ap, subst, ◌∙◌, inl, inr, arith}
use Rattle.std.specs.List.{AllByRecursion}
use Rattle.std.proofs.lemmas.Bool.{cases_Bool, eq-eqb}
use Rattle.std.proofs.lemmas.Nat.{div_below}
use Rattle.data_map.specs.declared.check.RawMap.{RawMap}
use Rattle.data_map.specs.Striping.{replicas, positions, group_width, parities}
use Rattle.data_map.proofs.Shape.{whole_positions, replicas_inside, group_ends}
use Rattle.server_rules.specs.Laws.{In}
use Rattle.server_rules.proofs.Members.{in_either, in_front, in_behind}
use Rattle.stripe_plan.specs.declared.plan.Aim.{Aim}
use Rattle.stripe_plan.specs.declared.plan.Aim.TheVariants as aim
use Rattle.stripe_plan.specs.declared.plan.Ask.{Ask}
use Rattle.stripe_plan.specs.declared.plan.Interval.{Interval}
use Rattle.stripe_plan.specs.declared.plan.Span.{Span}
use Rattle.stripe_plan.specs.declared.plan.Stretch.{Stretch}
use Rattle.stripe_plan.specs.declared.plan.Store.{Store}
use Rattle.stripe_plan.specs.Asks.{asks_of, asks_each, asks_place, asks_stripe, asks}
use Rattle.stripe_plan.specs.Lost.{among, source, is_out}
use Rattle.stripe_plan.specs.Plans.{filled, written, stores}
use Rattle.stripe_plan.specs.Touched.{stripes}
use Rattle.client_rules.specs.Calls.{span_of, is_write, bytes_of}
use Rattle.client_rules.specs.Commands.{credential_in}
use Rattle.client_rules.specs.Io.{outs, had}
use Rattle.client_rules.specs.Reads.{first_present, probe_of, probe_each, probes_due}
use Rattle.client_rules.specs.Writes.{gathers_due}
use Rattle.exchange_law.proofs.Parts.{each_more}
use Rattle.exchange_law.proofs.PlaceLists.{all_wider, all_map, either_all}
use Rattle.exchange_law.proofs.Plans.{IsAsked, asks_in, source_found}
use Rattle.exchange_law.proofs.Reach.{is_listed}
use Rattle.world_history.specs.ClientNames.{CallOp, Held, Listed, Credential, TimedOut, Awaited, Column}
use Rattle.ready_law.specs.Ready.{greatest_end}
use Rattle.ready_law.specs.Reacting.{touched_under, IsGood, IsOfCall, MayAsk}

-- ---- where WRITEs end

-- each of some asks ends no later than the last one of its component
ends_below : (xs : List Ask) (a : Ask) → In a xs → a.offset + a.length ≤ greatest_end a.component xs
unfolding greatest_end
ends_below [] a i = absurd i
ends_below (x ∷ xs) a (inl e) =
    subst (λ (b : Ask). b.offset + b.length ≤ greatest_end b.component (x ∷ xs)) (sym e)
    (rw (eq-eqb x.component x.component refl) (omega arith))
ends_below (x ∷ xs) a (inr i) = elim (cases_Bool (x.component == a.component)) [
  | inl t ↦ let rest = ends_below xs a i in rw t (omega (arith, rest))
  | inr f ↦ rw f (ends_below xs a i)
]

-- with no component out no fewer bytes are written
each_more_out : (out : List ℕ) (s p k n : ℕ) (is : List Interval) (a : Ask) → In a (asks_each out s p k n is)
    → In a (asks_each [] s p k n is)
unfolding asks_each
each_more_out out s p k zero is a i = absurd i
each_more_out out s p k (suc n) is a i = elim (cases_Bool (among k out)) [
  | inl gone ↦ in_behind a (asks_of s p k is) _ (each_more_out out s p (k + 1) n is a (rw gone at i))
  | inr there ↦ elim (in_either a (asks_of s p k is) (asks_each out s p (k + 1) n is) (rw there at i)) [
    | inl here ↦ in_front a (asks_of s p k is) _ here
    | inr later ↦ in_behind a (asks_of s p k is) _ (each_more_out out s p (k + 1) n is a later)
  ]
]

module _ (m : RawMap) (r : Span) (out : List ℕ) where
  place_more : (s i : ℕ) (a : Ask) → In a (asks_place aim.Scatters m r out [] s i)
      → In a (asks_place aim.Scatters m r [] [] s i)
  unfolding asks_place
  place_more s i a there = each_more_out out s _ _ _ _ a there

  stripe_more : (s i n : ℕ) (a : Ask) → In a (asks_stripe aim.Scatters m r out [] s i n)
      → In a (asks_stripe aim.Scatters m r [] [] s i n)
  unfolding asks_stripe
  stripe_more s i zero a there = there
  stripe_more s i (suc n) a there =
      elim (in_either a (asks_place aim.Scatters m r out [] s i) (asks_stripe aim.Scatters m r out [] s (i + 1) n) there) [
        | inl here ↦ in_front a (asks_place aim.Scatters m r [] [] s i) _ (place_more s i a here)
        | inr later ↦ in_behind a (asks_place aim.Scatters m r [] [] s i) _ (stripe_more s (i + 1) n a later)
      ]

  asks_more : (ss : List ℕ) (a : Ask) → In a (asks aim.Scatters m r out [] ss) → In a (asks aim.Scatters m r [] [] ss)
  unfolding asks
  asks_more [] a there = there
  asks_more (s ∷ ss) a there =
      elim (in_either a (asks_stripe aim.Scatters m r out [] s 0 (group_width m)) (asks aim.Scatters m r out [] ss) there) [
        | inl here ↦ in_front a (asks_stripe aim.Scatters m r [] [] s 0 (group_width m)) _
            (stripe_more s 0 (group_width m) a here)
        | inr later ↦ in_behind a (asks_stripe aim.Scatters m r [] [] s 0 (group_width m)) _ (asks_more ss a later)
      ]

-- ---- members of a list

-- what holds of each member that is in the list holds of each
pub all_there : {A : Type 0} (P : A → Type 0) (xs : List A) → ((x : A) → In x xs → P x) → AllByRecursion P xs
all_there P [] f = tt
all_there P (x ∷ xs) f = (f x (inl refl), all_there P xs (λ y i. f y (inr i)))

-- what holds of each holds of one
pub one_of : {A : Type 0} (P : A → Type 0) (xs : List A) → AllByRecursion P xs → (x : A) → In x xs → P x
one_of P [] all x i = absurd i
one_of P (y ∷ xs) all x (inl e) = subst P (sym e) all.0
one_of P (y ∷ xs) all x (inr i) = one_of P xs all.1 x i

-- ---- plans

module _ (h : Held) (op : CallOp) (lost : List ℕ) (good : IsGood h op lost) (timed : List TimedOut) where
  -- a component of a touched stripe's group that isn't out
  in_row : (a : Ask) → IsAsked h.map (outs h timed) (λ (s : ℕ). In s (touched_under h op)) a → IsOfCall h op a.component
  in_row a (s, touched, row) =
      let below : a.component < length h.components = omega (arith, row.below, good.complete) in
      let l = is_listed h timed a.component below row.there in
      let has : is_some (credential_in (slice_get h.components a.component)) ≡ true =
      ap (λ (o : Option Listed). is_some (credential_in o)) l.found ∙ ap (λ (o : Option Credential). is_some o) l.has in
      record { listed = has; reached = inr (s, touched, sym row.group) }

  asked_in : (x : Aim) (r : Span) (had : List Stretch)
      → AllByRecursion (IsAsked h.map (outs h timed) (λ (s : ℕ). In s (touched_under h op)))
      (asks x h.map r (outs h timed) had (touched_under h op))
  asked_in x r had =
      asks_in (λ (s : ℕ). In s (touched_under h op)) x h.map r (outs h timed) had (touched_under h op) good.checked
      (all_there _ (touched_under h op) (λ s i. i))

  -- READs of the touched stripes
  pub reads_may : (x : Aim) (r : Span) (had : List Stretch) → stripes h.map r ≡ touched_under h op
      → AllByRecursion (MayAsk h op timed false) (asks x h.map r (outs h timed) had (stripes h.map r))
  reads_may x r had same =
      rw same (all_wider _ (MayAsk h op timed false)
      (λ a asked. record { asks = in_row a asked; there = asked.2.there; end = λ no_. absurd (cc no_) }) _ (asked_in x r had))

  pub gathers_may : is_write op ≡ true → (got : List Column) (awaited : List Awaited)
      → AllByRecursion (MayAsk h op timed false) (gathers_due h (span_of op) got timed awaited)
  unfolding gathers_due
  gathers_may writes got awaited =
      either_all (MayAsk h op timed false) (parities h.map == 0) _ _ tt
      (reads_may aim.Gathers (span_of op) (had got awaited) (rw writes refl))

  -- WRITEs there
  writes_may : is_write op ≡ true
      → AllByRecursion (MayAsk h op timed true)
      (asks aim.Scatters h.map (span_of op) (outs h timed) [] (stripes h.map (span_of op)))
  writes_may writes =
      let same : touched_under h op ≡ stripes h.map (span_of op) = rw writes refl in
      let all : AllByRecursion (IsAsked h.map (outs h timed) (λ (s : ℕ). In s (touched_under h op)))
      (asks aim.Scatters h.map (span_of op) (outs h timed) [] (stripes h.map (span_of op))) =
      subst (λ (ss : List ℕ). AllByRecursion (IsAsked h.map (outs h timed) (λ (s : ℕ). In s (touched_under h op)))
      (asks aim.Scatters h.map (span_of op) (outs h timed) [] ss)) same (asked_in aim.Scatters (span_of op) []) in
      all_there (MayAsk h op timed true) _
      (λ a i. let asked = one_of _ _ all a i in
      record {
        asks = in_row a asked;
        there = asked.2.there;
        end = λ yes_. ends_below _ a (asks_more h.map (span_of op) (outs h timed) (stripes h.map (span_of op)) a i);
      })

  pub stores_may : is_write op ≡ true → (got : List Column)
      → AllByRecursion (λ (w : Store). MayAsk h op timed true w.ask)
      (stores h.map (span_of op) (bytes_of op) got (outs h timed))
  unfolding stores
  stores_may writes got =
      all_map (filled (written h.map (span_of op) (bytes_of op) got (outs h timed) (stripes h.map (span_of op))))
      (MayAsk h op timed true) (λ (w : Store). MayAsk h op timed true w.ask) (λ a may. may)
      (asks aim.Scatters h.map (span_of op) (outs h timed) [] (stripes h.map (span_of op))) (writes_may writes)

  -- ---- a read of no byte

  module _ (reads : is_write op ≡ false) (none : touched_under h op ≡ []) where
    probe_may : (p : ℕ) (o : Option ℕ) → p < positions h.map → source h.map (outs h timed) p ≡ o
        → AllByRecursion (MayAsk h op timed false) (probe_of h p o)
    unfolding source
    probe_may p None low from = tt
    probe_may p (Some n) low from =
        let found = source_found (outs h timed) (p * replicas h.map) (replicas h.map) n from in
        let below : n < length h.components =
        omega (arith, good.complete, found.1, replicas_inside h.map p good.checked low) in
        let l = is_listed h timed n below found.2 in
        let has : is_some (credential_in (slice_get h.components n)) ≡ true =
        ap (λ (o : Option Listed). is_some (credential_in o)) l.found ∙ ap (λ (o : Option Credential). is_some o) l.has in (
          record {
            asks = record { listed = has; reached = inl (reads, none) };
            there = found.2;
            end = λ no_. absurd (cc no_);
          },
          tt,
        )

    each_may : (have : List ℕ) (p n : ℕ) → p + n ≤ positions h.map
        → AllByRecursion (MayAsk h op timed false) (probe_each h (outs h timed) have p n)
    unfolding probe_each
    each_may have p zero low = tt
    each_may have p (suc n) low =
        each_more (MayAsk h op timed false) _ _
        (either_all (MayAsk h op timed false) (among p have) [] _ tt
        (probe_may p (source h.map (outs h timed) p) (omega (arith, low)) refl))
        (each_may have (p + 1) n (omega (arith, low)))

    -- the first component that is listed is one of them
    first_below : (ls : List Listed) (k j : ℕ) → first_present ls k ≡ Some j → j < k + length ls
    unfolding first_present
    first_below [] k j e = absurd (cc e)
    first_below (l ∷ ls) k j e = elim (cases_Bool (is_some l.credential)) [
      | inl has ↦ let same : k ≡ j = cc (rw has at e) in omega (arith, same)
      | inr not ↦ let rest = first_below ls (k + 1) j (rw not at e) in omega (arith, rest)
    ]

    pub probes_may : (have : List ℕ) (n : ℕ) → first_present h.components 0 ≡ Some n
        → AllByRecursion (MayAsk h op timed false) (probes_due h (outs h timed) have (n / replicas h.map))
    unfolding probes_due
    probes_may have n first =
        let below : n < positions h.map * replicas h.map =
        omega (arith, first_below h.components 0 n first, good.complete, whole_positions h.map good.checked) in
        let low : n / replicas h.map < positions h.map =
        div_below n (replicas h.map) (positions h.map) (omega arith) below in
        either_all (MayAsk h op timed false) (is_out h.map (outs h timed) (n / replicas h.map)) _ _
        (each_may have _ _ (group_ends h.map (n / replicas h.map) good.checked low))
        (each_may have (n / replicas h.map) 1 (omega (arith, low)))
