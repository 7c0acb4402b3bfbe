-- Where the first two of drives that are spread change places, they are as well spread, if there is one group.
use Rattle.std.specs.Prelude.{◌≡◌, ◌*◌, ◌+◌, ◌==◌, ◌&&◌, ◌||◌, not, ℕ, Bool, true, false, List, [], ◌∷◌, length, filter, nat_le, if◌then◌else◌, refl}
use Rattle.std.specs.List.{list_any, list_all}
use Rattle.std.proofs.Common.{arith, ap, subst, ◌∙◌, ◌-◌, eq-eqb}
use Rattle.std.proofs.lemmas.Bool.Decides.{nat_tests}
use Rattle.std.proofs.lemmas.List.{take_all}
use Rattle.zone_place.specs.declared.asks.ZoneAsk.{ZoneAsk}
use Rattle.zone_place.specs.Zones.{InZone, many_in, fits_zones, group_at, spreads, stands_in, zones_of, are_among, all_asked, counted}
use Rattle.zone_place.proofs.Spreading.{spread_parts}
use Rattle.program_tests.specs.Swapped.{swapped}

-- ---- as many are in each zone

two_kept : (p q : Bool) (a b : ℕ) (xs : List ℕ)
    → length (if q then b ∷ (if p then a ∷ xs else xs) else (if p then a ∷ xs else xs))
    ≡ length (if p then a ∷ (if q then b ∷ xs else xs) else (if q then b ∷ xs else xs))
two_kept true true a b xs = refl
two_kept true false a b xs = refl
two_kept false true a b xs = refl
two_kept false false a b xs = refl

many_swapped : (ds : List InZone) (z a b : ℕ) (ns : List ℕ) → many_in ds z (b ∷ a ∷ ns) ≡ many_in ds z (a ∷ b ∷ ns)
many_swapped ds z a b ns = two_kept (stands_in ds a z) (stands_in ds b z) a b (filter (λ n. stands_in ds n z) ns)

all_swapped : (ds : List InZone) (most a b : ℕ) (ns zs : List ℕ)
    → list_all (λ z. nat_le (many_in ds z (b ∷ a ∷ ns)) most) zs ≡ list_all (λ z. nat_le (many_in ds z (a ∷ b ∷ ns)) most) zs
all_swapped ds most a b ns [] = refl
all_swapped ds most a b ns (z ∷ zs) = rw (many_swapped ds z a b ns, all_swapped ds most a b ns zs) refl

-- ---- they are different, and there

some_order : (A B x u v r : Bool)
    → (B && (not (x || u) && (A && (not v && r)))) ≡ (A && (not (x || v) && (B && (not u && r))))
some_order true true true u v r = refl
some_order true true false true true r = refl
some_order true true false true false r = refl
some_order true true false false true r = refl
some_order true true false false false r = refl
some_order false false x u v r = refl
some_order false true true u v r = refl
some_order false true false true v r = refl
some_order false true false false v r = refl
some_order true false true u v r = refl
some_order true false false u true r = refl
some_order true false false u false r = refl

same_test : (a b : ℕ) → (a == b) ≡ (b == a)
same_test a b = grind (arith, nat_tests)

among_swapped : (ds : List InZone) (a b : ℕ) (ns : List ℕ) → are_among ds (b ∷ a ∷ ns) ≡ are_among ds (a ∷ b ∷ ns)
unfolding are_among
among_swapped ds a b ns =
    rw (same_test a b) (some_order (list_any (λ d. d.drive == a) ds) (list_any (λ d. d.drive == b) ds) (b == a)
    (list_any (λ k. k == b) ns) (list_any (λ k. k == a) ns) (are_among ds ns))

-- ---- the whole list is the one group

one_group : (ask : ZoneAsk) (ns : List ℕ) → length ns ≡ 1 * ask.size → group_at ask 0 ns ≡ ns
one_group ask ns e =
    let none : 0 * ask.size ≡ 0 = omega arith in rw none (take_all (0 + ask.size - 0) ns (omega (arith, e)))

fits_swapped : (ask : ZoneAsk) (ds : List InZone) (a b : ℕ) (ns : List ℕ) → length (a ∷ b ∷ ns) ≡ 1 * ask.size
    → fits_zones ask ds (group_at ask 0 (b ∷ a ∷ ns)) ≡ fits_zones ask ds (group_at ask 0 (a ∷ b ∷ ns))
fits_swapped ask ds a b ns e =
    rw (one_group ask (a ∷ b ∷ ns) e, one_group ask (b ∷ a ∷ ns) e) (all_swapped ds ask.most a b ns (zones_of ds))

pub swaps : (ask : ZoneAsk) (ds : List InZone) (ns : List ℕ) → ask.groups ≡ 1 → spreads ask ds ns ≡ true
    → spreads ask ds (swapped ns) ≡ true
unfolding spreads counted
swaps ask ds [] one h = h
swaps ask ds (a ∷ []) one h = h
swaps ask ds (a ∷ b ∷ ns) one h =
    let parts = spread_parts ask ds (a ∷ b ∷ ns) h in
    let whole : length (a ∷ b ∷ ns) ≡ 1 * ask.size = parts.0 ∙ ap (λ (q : ℕ). q * ask.size) one in
    let fits : list_all (λ j. fits_zones ask ds (group_at ask j (a ∷ b ∷ ns))) (counted 0 1) ≡ true =
    subst (λ (q : ℕ). list_all (λ j. fits_zones ask ds (group_at ask j (a ∷ b ∷ ns))) (counted 0 q) ≡ true) one parts.2 in
    rw (
      eq-eqb (length (b ∷ a ∷ ns)) (all_asked ask) parts.0,
      among_swapped ds a b ns,
      parts.1,
      one,
      fits_swapped ask ds a b ns whole,
    ) fits
