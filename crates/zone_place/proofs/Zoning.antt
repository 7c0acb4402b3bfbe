-- Zones in rising order, and what a drive more changes.
use Rattle.std.proofs.Common.{◌≡◌, ℕ, suc, ◌+◌, ◌<◌, List, [], ◌∷◌, length, Bool, true, false, ◌||◌, refl, sym, ◌∙◌, arith, inl, inr}
use Rattle.std.specs.Prelude.{if◌then◌else◌, ◌==◌, nat_lt, min}
use Rattle.std.specs.List.{list_any, sum_by}
use Rattle.std.proofs.lemmas.Bool.{cases_eq, cases_lt, eq-eqb, ne_eqb, eqb-false, lt-ltb, le-ltb, or_parts}
use Rattle.std.proofs.lemmas.List.Sums.{sum_by-cons}
use Rattle.zone_place.specs.declared.asks.ZoneAsk.{ZoneAsk}
use Rattle.zone_place.specs.Zones.{InZone, zone_most, within, with_zone, zones_of, room}

-- each of these is above
abbrev pub AllAbove : ℕ → List ℕ → Type 0
AllAbove x [] = Unit {0}
AllAbove x (y ∷ ys) = (x < y) × AllAbove x ys

abbrev pub Rising : List ℕ → Type 0
Rising [] = Unit {0}
Rising (y ∷ ys) = AllAbove y ys × Rising ys

pub above_weaker : (x y : ℕ) (zs : List ℕ) → x < y → AllAbove y zs → AllAbove x zs
above_weaker x y [] l a = tt
above_weaker x y (z ∷ zs) l a = (omega (arith, l, a.0), above_weaker x y zs l a.1)

above_with : (x z : ℕ) (ys : List ℕ) → x < z → AllAbove x ys → AllAbove x (with_zone z ys)
unfolding with_zone
above_with x z [] l a = (l, tt)
above_with x z (y ∷ ys) l a = elim (cases_eq z y) [
  | inl e ↦ rw (eq-eqb z y e) a
  | inr ne ↦ elim (cases_lt z y) [
    | inl lt ↦ rw (ne_eqb z y ne, lt-ltb z y lt) (l, a)
    | inr ge ↦ rw (ne_eqb z y ne, le-ltb z y ge) (a.0, above_with x z ys l a.1)
  ]
]

rising_with : (z : ℕ) (ys : List ℕ) → Rising ys → Rising (with_zone z ys)
unfolding with_zone
rising_with z [] r = (tt, tt)
rising_with z (y ∷ ys) r = elim (cases_eq z y) [
  | inl e ↦ rw (eq-eqb z y e) r
  | inr ne ↦ elim (cases_lt z y) [
    | inl lt ↦ rw (ne_eqb z y ne, lt-ltb z y lt) ((lt, above_weaker z y ys lt r.0), r)
    | inr ge ↦ rw (ne_eqb z y ne, le-ltb z y ge) (above_with y z ys (omega (arith, ge, ne)) r.0, rising_with z ys r.1)
  ]
]

pub rising_zones : (ds : List InZone) → Rising (zones_of ds)
unfolding zones_of
rising_zones [] = tt
rising_zones (d ∷ ds) = rising_with d.zone (zones_of ds) (rising_zones ds)

pub not_above : (x : ℕ) (zs : List ℕ) → AllAbove x zs → list_any (λ y. x == y) zs ≡ false
not_above x [] a = refl
not_above x (z ∷ zs) a = rw (ne_eqb x z (λ e. absurd (omega (arith, e, a.0)))) (not_above x zs a.1)

twice : (b a : Bool) → (b || a) ≡ (b || (b || a))
twice true a = refl
twice false a = refl

swapped : (b c a : Bool) → (b || (c || a)) ≡ (c || (b || a))
swapped true true a = refl
swapped true false a = refl
swapped false c a = refl

pub any_with : (x z : ℕ) (ys : List ℕ) → list_any (λ y. x == y) (with_zone z ys) ≡ ((x == z) || list_any (λ y. x == y) ys)
unfolding with_zone
any_with x z [] = refl
any_with x z (y ∷ ys) = elim (cases_eq z y) [
  | inl e ↦ rw (eq-eqb z y e, e) (twice (x == y) (list_any (λ y. x == y) ys))
  | inr ne ↦ elim (cases_lt z y) [
    | inl lt ↦ rw (ne_eqb z y ne, lt-ltb z y lt) refl
    | inr ge ↦ rw (ne_eqb z y ne, le-ltb z y ge, any_with x z ys) (swapped (x == y) (x == z) (list_any (λ y. x == y) ys))
  ]
]

-- ---- sums over zones

sum_same : (f g : ℕ → ℕ) (z : ℕ) (zs : List ℕ) → AllAbove z zs → ((y : ℕ) → (z ≡ y → ⊥) → f y ≡ g y) → sum_by f zs ≡ sum_by g zs
sum_same f g z [] a same = refl
sum_same f g z (y ∷ ys) a same = rw (sum_by-cons f y ys, sum_by-cons g y ys)
    (omega (arith, same y (λ e. absurd (omega (arith, e, a.0))), sum_same f g z ys a.1 same))

-- where two counts differ at one zone alone
pub sum_with : (f g : ℕ → ℕ) (z k : ℕ) (zs : List ℕ) → Rising zs → ((y : ℕ) → (z ≡ y → ⊥) → f y ≡ g y) → f z ≡ g z + k
    → (list_any (λ y. z == y) zs ≡ false → g z ≡ 0) → sum_by f (with_zone z zs) ≡ sum_by g zs + k
unfolding with_zone
sum_with f g z k [] r same here none = rw (sum_by-cons f z []) (omega (arith, here, none refl))
sum_with f g z k (y ∷ ys) r same here none = elim (cases_eq z y) [
  | inl e ↦ rw (eq-eqb z y e, sum_by-cons f y ys, sum_by-cons g y ys)
      (omega (arith, rw e at here, sum_same f g y ys r.0 (λ x ne. same x (λ f. ne (sym e ∙ f)))))
  | inr ne ↦ elim (cases_lt z y) [
    | inl lt ↦ let a : AllAbove z ys = above_weaker z y ys lt r.0 in
        rw (ne_eqb z y ne, lt-ltb z y lt, sum_by-cons f z (y ∷ ys), sum_by-cons f y ys, sum_by-cons g y ys)
        (omega (arith, here, none (not_above z (y ∷ ys) (lt, a)), same y ne, sum_same f g z ys a same))
    | inr ge ↦ rw (ne_eqb z y ne, le-ltb z y ge, sum_by-cons f y (with_zone z ys), sum_by-cons g y ys)
        (omega (arith, same y ne, sum_with f g z k ys r.1 same here (rw (ne_eqb z y ne) at none)))
  ]
]

pub none_within : (z : ℕ) (ds : List InZone) → list_any (λ y. z == y) (zones_of ds) ≡ false → within z ds ≡ []
unfolding zones_of
none_within z [] h = refl
none_within z (d ∷ ds) h =
    let parts = or_parts (z == d.zone) (list_any (λ y. z == y) (zones_of ds)) (sym (any_with z d.zone (zones_of ds)) ∙ h) in
    rw (ne_eqb d.zone z (λ e. eqb-false z d.zone parts.0 (sym e))) (none_within z ds parts.1)

-- ---- room

one_more : (w m : ℕ) → min (suc w) m ≡ min w m + (if nat_lt w m then 1 else 0)
one_more w m = elim (cases_lt w m) [
  | inl lt ↦ rw (lt-ltb w m lt) (omega (arith, lt))
  | inr ge ↦ rw (le-ltb w m ge) (omega (arith, ge))
]

-- a drive more makes room where its zone isn't full
pub room_more : (ask : ZoneAsk) (d : InZone) (ds : List InZone)
    → room ask (d ∷ ds) ≡ room ask ds + (if nat_lt (length (within d.zone ds)) (zone_most ask) then 1 else 0)
unfolding zones_of
room_more ask d ds =
    sum_with (λ z. min (length (within z (d ∷ ds))) (zone_most ask)) (λ z. min (length (within z ds)) (zone_most ask)) d.zone
    (if nat_lt (length (within d.zone ds)) (zone_most ask) then 1 else 0) (zones_of ds) (rising_zones ds)
    (λ y ne. rw (ne_eqb d.zone y ne) refl)
    (rw (eq-eqb d.zone d.zone refl) (one_more (length (within d.zone ds)) (zone_most ask)))
    (λ h. rw (none_within d.zone ds h) (omega arith))
