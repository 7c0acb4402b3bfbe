-- Dealing spreads.
use Rattle.std.proofs.Common.{◌≡◌, ℕ, zero, suc, ◌+◌, ◌-◌, ◌*◌, ◌<◌, ◌≤◌, List, [], ◌∷◌, length, take, Bool, true, false, ◌&&◌, refl, sym, ◌∙◌, ap, arith, inl, inr}
use Rattle.std.specs.Prelude.{if◌then◌else◌, ◌==◌, nat_le, min}
use Rattle.std.specs.List.{list_any, list_all, filter, flat_map, sum_by}
use Rattle.std.proofs.lemmas.Bool.{cases_eq, cases_Bool, eq-eqb, ne_eqb, eqb-true, leb-true, le-leb, or_parts, or_right, and_parts, false≢true}
use Rattle.std.proofs.lemmas.List.{length-take, length-map}
use Rattle.std.proofs.lemmas.List.Concat.{length-flat_map}
use Rattle.std.proofs.lemmas.List.Sums.{sum_by-cons}
use Rattle.zone_place.specs.declared.asks.ZoneAsk.{ZoneAsk}
use Rattle.zone_place.specs.Zones.{InZone, AreDifferent, zone_most, all_asked, within, zones_of, stands_in, room, has_room, are_among, many_in, fits_zones, counted, group_at, spreads, every, in_line, dealt, spread}
use Rattle.zone_place.specs.Law.{DealtSpreads}
use Rattle.zone_place.proofs.Zoning.{rising_zones}
use Rattle.zone_place.proofs.Counting.{times, drives_of, times_line, once, among_from}
use Rattle.zone_place.proofs.Turns.{as_many, few_of_zone, few_of_front, times_dealt, all_counted, group_of_turns, length_turns}

-- ---- a drive stands in one zone

none_stands : (ds : List InZone) (n z : ℕ) → list_any (λ k. k.drive == n) ds ≡ false → stands_in ds n z ≡ false
none_stands [] n z h = refl
none_stands (d ∷ ds) n z h =
    let parts = or_parts (d.drive == n) (list_any (λ k. k.drive == n) ds) h in
    rw parts.0 (none_stands ds n z parts.1)

pub apart : (ds : List InZone) (n y z : ℕ) → AreDifferent ds → (z ≡ y → ⊥) → stands_in ds n y ≡ true → stands_in ds n z ≡ false
unfolding AreDifferent
apart [] n y z a ne s = absurd (false≢true s)
apart (d ∷ ds) n y z a ne s = elim (cases_eq d.drive n) [
  | inl e ↦
      let none = λ (x : ℕ). none_stands ds n x (rw e at a.0) in
      elim (cases_eq d.zone y) [
        | inl f ↦ rw (eq-eqb d.drive n e, ne_eqb d.zone z (λ g. ne (sym g ∙ f)), none z) refl
        | inr nf ↦ absurd (false≢true (rw (eq-eqb d.drive n e, ne_eqb d.zone y nf, none y) at s))
      ]
  | inr nd ↦ rw (ne_eqb d.drive n nd) (apart ds n y z a.1 ne (rw (ne_eqb d.drive n nd) at s))
]

none_of_front : (p : ℕ → Bool) (y m : ℕ) (es : List InZone) → ((n : ℕ) → stands_in es n y ≡ true → p n ≡ false) →
    filter p (take m (drives_of (within y es))) ≡ []
none_of_front p y zero es h = refl
none_of_front p y (suc m) [] h = refl
none_of_front p y (suc m) (e ∷ es) h =
    let rest = λ (n : ℕ) (t : stands_in es n y ≡ true). h n (or_right ((e.drive == n) && (e.zone == y)) (stands_in es n y) t) in
    elim (cases_eq e.zone y) [
      | inl same ↦
          let here : stands_in (e ∷ es) e.drive y ≡ true = rw (eq-eqb e.drive e.drive refl, eq-eqb e.zone y same) refl in
          rw (eq-eqb e.zone y same, h e.drive here) (none_of_front p y m es rest)
      | inr ne ↦ rw (ne_eqb e.zone y ne) (none_of_front p y (suc m) es rest)
    ]

-- ---- no group has too many of a zone

few_in_zone : (ask : ZoneAsk) (ds : List InZone) (z j : ℕ) → AreDifferent ds → 0 < ask.groups
    → many_in ds z (every ask.groups j (in_line ask ds)) ≤ ask.most
few_in_zone ask ds z j a lo =
    let front = λ (y : ℕ). take (zone_most ask) (drives_of (within y ds)) in
    let p = λ (n : ℕ). stands_in ds n z in
    omega (
      arith,
      few_of_front p ask.groups j (all_asked ask) (flat_map front (zones_of ds)),
      few_of_zone p front z ask.groups ask.most j (zones_of ds) lo (rising_zones ds)
          (omega (arith, length-take (zone_most ask) (drives_of (within z ds))))
          (λ y ne. none_of_front p y (zone_most ask) ds (λ n s. apart ds n y z a ne s)),
    )

all_of : (p : ℕ → Bool) (zs : List ℕ) → ((z : ℕ) → p z ≡ true) → list_all p zs ≡ true
all_of p [] h = refl
all_of p (z ∷ zs) h = rw (h z) (all_of p zs h)

group_fits : (ask : ZoneAsk) (ds : List InZone) (j : ℕ) → AreDifferent ds → 0 < ask.groups →
    fits_zones ask ds (every ask.groups j (in_line ask ds)) ≡ true
group_fits ask ds j a lo = all_of (λ z. nat_le (many_in ds z (every ask.groups j (in_line ask ds))) ask.most) (zones_of ds)
    (λ z. le-leb (many_in ds z (every ask.groups j (in_line ask ds))) ask.most (few_in_zone ask ds z j a lo))

-- ---- as many as are asked

sum_same : (f g : ℕ → ℕ) (zs : List ℕ) → ((z : ℕ) → f z ≡ g z) → sum_by f zs ≡ sum_by g zs
sum_same f g [] same = refl
sum_same f g (z ∷ zs) same = rw (sum_by-cons f z zs, sum_by-cons g z zs) (omega (arith, same z, sum_same f g zs same))

length_line : (ask : ZoneAsk) (ds : List InZone) → has_room ask ds ≡ true → length (in_line ask ds) ≡ all_asked ask
length_line ask ds r =
    let front = λ (z : ℕ). take (zone_most ask) (drives_of (within z ds)) in
    omega (
      arith,
      leb-true (all_asked ask) (room ask ds) r,
      length-take (all_asked ask) (flat_map front (zones_of ds)),
      length-flat_map front (zones_of ds),
      sum_same (λ z. length (front z)) (λ z. min (length (within z ds)) (zone_most ask)) (zones_of ds)
          (λ z. omega (arith, length-take (zone_most ask) (drives_of (within z ds)), length-map (within z ds) (λ d. d.drive))),
    )

group_length : (ask : ZoneAsk) (ds : List InZone) (j : ℕ) → has_room ask ds ≡ true → j < ask.groups →
    length (every ask.groups (0 + j) (in_line ask ds)) ≡ ask.size
group_length ask ds j r l = as_many ask.groups ask.size (0 + j) (in_line ask ds) (omega (arith, l)) (length_line ask ds r)

pub dealt_length : (ask : ZoneAsk) (ds : List InZone) → has_room ask ds ≡ true → length (dealt ask ds) ≡ all_asked ask
unfolding dealt
dealt_length ask ds r =
    length_turns (λ j. every ask.groups j (in_line ask ds)) ask.size 0 ask.groups (λ j l. group_length ask ds j r l)

-- ---- different drives

pub dealt_times : (ask : ZoneAsk) (ds : List InZone) (n : ℕ) → times n (dealt ask ds) ≤ times n (drives_of ds)
unfolding dealt counted
dealt_times ask ds n = elim (cases_eq ask.groups 0) [
  | inl none ↦ rw none (omega arith)
  | inr some ↦ omega (arith, times_dealt n ask.groups (in_line ask ds) (omega (arith, some)), times_line ask ds n)
]

pub dealt_among : (ask : ZoneAsk) (ds : List InZone) → AreDifferent ds → are_among ds (dealt ask ds) ≡ true
dealt_among ask ds a = among_from ds (dealt ask ds) (dealt_times ask ds) (λ n. omega (arith, dealt_times ask ds n, once ds a n))

-- ---- each group is spread

dealt_groups : (ask : ZoneAsk) (ds : List InZone) → AreDifferent ds → has_room ask ds ≡ true
    → list_all (λ j. fits_zones ask ds (group_at ask j (dealt ask ds))) (counted 0 ask.groups) ≡ true
unfolding dealt
dealt_groups ask ds a r = all_counted (λ j. fits_zones ask ds (group_at ask j (dealt ask ds))) 0 ask.groups (λ j l.
    let width : (0 + j) * ask.size + ask.size - (0 + j) * ask.size ≡ ask.size = omega arith in
    let from : (0 + j) * ask.size ≡ j * ask.size = omega arith in
    let cut : group_at ask (0 + j) (dealt ask ds) ≡ every ask.groups (0 + j) (in_line ask ds) =
    rw (width, from)
    (group_of_turns (λ j. every ask.groups j (in_line ask ds)) ask.size 0 ask.groups j
    (λ i k. group_length ask ds i r k) l) in
    ap (fits_zones ask ds) cut ∙ group_fits ask ds (0 + j) a (omega (arith, l)))

pub dealt_spreads : DealtSpreads
unfolding spreads
dealt_spreads ask ds a r =
    rw (eq-eqb (length (dealt ask ds)) (all_asked ask) (dealt_length ask ds r), dealt_among ask ds a) (dealt_groups ask ds a r)

-- ---- a rule's choice, where it is spread, else what is dealt

pub spread_spreads : (ask : ZoneAsk) (ds : List InZone) (chosen : List ℕ) → AreDifferent ds → has_room ask ds ≡ true →
    spreads ask ds (spread ask ds chosen) ≡ true
spread_spreads ask ds chosen a r = elim (cases_Bool (spreads ask ds chosen)) [
  | inl e ↦ rw e e
  | inr e ↦ rw e (dealt_spreads ask ds a r)
]

pub spread_again : (ask : ZoneAsk) (ds : List InZone) (chosen : List ℕ) →
    spread ask ds (spread ask ds chosen) ≡ spread ask ds chosen
spread_again ask ds chosen = elim (cases_Bool (spreads ask ds chosen)) [
  | inl e ↦ rw e (rw e refl)
  | inr e ↦ rw e (either (spreads ask ds (dealt ask ds)) (dealt ask ds))
]
  where
    either : (b : Bool) (xs : List ℕ) → (if b then xs else xs) ≡ xs
    either true xs = refl
    either false xs = refl

-- what it is to be spread, part by part
pub spread_parts : (ask : ZoneAsk) (ds : List InZone) (ns : List ℕ) → spreads ask ds ns ≡ true
    → (length ns ≡ all_asked ask) × (are_among ds ns ≡ true) ×
    (list_all (λ j. fits_zones ask ds (group_at ask j ns)) (counted 0 ask.groups) ≡ true)
unfolding spreads
spread_parts ask ds ns s =
    let first = and_parts (length ns == all_asked ask)
    (are_among ds ns && list_all (λ j. fits_zones ask ds (group_at ask j ns)) (counted 0 ask.groups)) s in
    let second =
    and_parts (are_among ds ns) (list_all (λ j. fits_zones ask ds (group_at ask j ns)) (counted 0 ask.groups)) first.1 in
    (eqb-true (length ns) (all_asked ask) first.0, second.0, second.1)
