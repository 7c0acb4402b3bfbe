-- How often a number stands in a list, and what follows where it is never twice.
use Rattle.std.proofs.Common.{◌≡◌, ℕ, zero, suc, ◌+◌, ◌<◌, ◌≤◌, List, [], ◌∷◌, ◌++◌, map, take, true, false, refl, ap, arith, inl, inr}
use Rattle.std.specs.Prelude.{if◌then◌else◌, ◌==◌}
use Rattle.std.specs.List.{list_any, flat_map, sum_by}
use Rattle.std.proofs.lemmas.Bool.{cases_eq, cases_Bool, eq-eqb, ne_eqb, or_parts}
use Rattle.std.proofs.lemmas.List.Sums.{sum_by-cons}
use Rattle.zone_place.specs.declared.asks.ZoneAsk.{ZoneAsk}
use Rattle.zone_place.specs.Zones.{InZone, AreDifferent, zone_most, all_asked, within, zones_of, are_among, in_line}
use Rattle.zone_place.proofs.Zoning.{rising_zones, sum_with, none_within}

abbrev pub times : ℕ → List ℕ → ℕ
times n [] = 0
times n (k ∷ ks) = (if k == n then 1 else 0) + times n ks

abbrev pub drives_of : List InZone → List ℕ
drives_of ds = map (λ d. d.drive) ds

pub times-append : (n : ℕ) (xs ys : List ℕ) → times n (xs ++ ys) ≡ times n xs + times n ys
times-append n [] ys = omega arith
times-append n (x ∷ xs) ys = omega (arith, times-append n xs ys)

times_take : (n k : ℕ) (xs : List ℕ) → times n (take k xs) ≤ times n xs
times_take n zero xs = omega arith
times_take n (suc k) [] = omega arith
times_take n (suc k) (x ∷ xs) = omega (arith, times_take n k xs)

pub times_flat : (n : ℕ) (f : ℕ → List ℕ) (zs : List ℕ) → times n (flat_map f zs) ≡ sum_by (λ z. times n (f z)) zs
times_flat n f [] = refl
times_flat n f (z ∷ zs) = rw (times-append n (f z) (flat_map f zs), sum_by-cons (λ y. times n (f y)) z zs)
    (ap (λ k. times n (f z) + k) (times_flat n f zs))

sum_less : (f g : ℕ → ℕ) (zs : List ℕ) → ((z : ℕ) → f z ≤ g z) → sum_by f zs ≤ sum_by g zs
sum_less f g [] less = omega arith
sum_less f g (z ∷ zs) less = rw (sum_by-cons f z zs, sum_by-cons g z zs) (omega (arith, less z, sum_less f g zs less))

-- the zones together have each drive as often as there is
times_zones : (n : ℕ) (ds : List InZone) → sum_by (λ z. times n (drives_of (within z ds))) (zones_of ds) ≡ times n (drives_of ds)
unfolding zones_of
times_zones n [] = refl
times_zones n (d ∷ ds) = omega (
  arith,
  sum_with (λ z. times n (drives_of (within z (d ∷ ds)))) (λ z. times n (drives_of (within z ds))) d.zone
      (if d.drive == n then 1 else 0) (zones_of ds) (rising_zones ds)
      (λ y ne. rw (ne_eqb d.zone y ne) refl)
      (rw (eq-eqb d.zone d.zone refl) (omega arith))
      (λ h. rw (none_within d.zone ds h) refl),
  times_zones n ds,
)

-- no drive comes more often into the line than there is
pub times_line : (ask : ZoneAsk) (ds : List InZone) (n : ℕ) → times n (in_line ask ds) ≤ times n (drives_of ds)
times_line ask ds n =
    let front = λ (z : ℕ). take (zone_most ask) (drives_of (within z ds)) in
    omega (
      arith,
      times_take n (all_asked ask) (flat_map front (zones_of ds)),
      times_flat n front (zones_of ds),
      sum_less (λ z. times n (front z)) (λ z. times n (drives_of (within z ds))) (zones_of ds)
          (λ z. times_take n (zone_most ask) (drives_of (within z ds))),
      times_zones n ds,
    )

-- ---- different numbers

no_times : (n : ℕ) (ds : List InZone) → list_any (λ k. k.drive == n) ds ≡ false → times n (drives_of ds) ≡ 0
no_times n [] h = refl
no_times n (d ∷ ds) h =
    let parts = or_parts (d.drive == n) (list_any (λ k. k.drive == n) ds) h in
    rw parts.0 (omega (arith, no_times n ds parts.1))

pub once : (ds : List InZone) → AreDifferent ds → (n : ℕ) → times n (drives_of ds) ≤ 1
unfolding AreDifferent
once [] a n = omega arith
once (d ∷ ds) a n = elim (cases_eq d.drive n) [
  | inl e ↦ rw (eq-eqb d.drive n e) (omega (arith, no_times n ds (rw e at a.0)))
  | inr ne ↦ rw (ne_eqb d.drive n ne) (omega (arith, once ds a.1 n))
]

pub is_there : (n : ℕ) (ds : List InZone) → 0 < times n (drives_of ds) → list_any (λ d. d.drive == n) ds ≡ true
is_there n [] l = absurd (omega (arith, l))
is_there n (d ∷ ds) l = elim (cases_Bool (d.drive == n)) [
  | inl e ↦ rw e refl
  | inr e ↦ rw e (is_there n ds (omega (arith, rw e at l)))
]

never : (n : ℕ) (ns : List ℕ) → times n ns ≡ 0 → list_any (λ k. k == n) ns ≡ false
never n [] h = refl
never n (k ∷ ks) h = elim (cases_Bool (k == n)) [
  | inl e ↦ absurd (omega (arith, rw e at h))
  | inr e ↦ rw e (never n ks (omega (arith, rw e at h)))
]

pub among_from : (ds : List InZone) (ns : List ℕ) → ((n : ℕ) → times n ns ≤ times n (drives_of ds)) → ((n : ℕ) → times n ns ≤ 1) →
    are_among ds ns ≡ true
unfolding are_among
among_from ds [] less one = refl
among_from ds (n ∷ ns) less one =
    let first : times n (n ∷ ns) ≡ 1 + times n ns = rw (eq-eqb n n refl) refl in
    rw (is_there n ds (omega (arith, first, less n)), never n ns (omega (arith, first, one n)))
    (among_from ds ns (λ m. omega (arith, less m)) (λ m. omega (arith, one m)))
