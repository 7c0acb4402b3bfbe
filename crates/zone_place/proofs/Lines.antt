-- The line, zone after zone, as the code makes it.
use Rattle.std.proofs.Common.{◌≡◌, ℕ, zero, suc, ◌+◌, ◌-◌, ◌<◌, ◌≤◌, List, [], ◌∷◌, ◌++◌, take, Bool, true, false, Option, Some, None, refl, sym, ◌∙◌, ap, arith, inl, inr, append-nil, append_assoc}
use Rattle.std.specs.Prelude.{if◌then◌else◌, nat_le}
use Rattle.std.specs.List.{filter, flat_map}
use Rattle.std.proofs.lemmas.Bool.{cases_eq, cases_lt, cases_Bool, eq-eqb, ne_eqb, lt-ltb, le-ltb, le-leb, lt-leb}
use Rattle.zone_place.specs.declared.asks.ZoneAsk.{ZoneAsk}
use Rattle.zone_place.specs.declared.loads.ZoneLoad.{ZoneLoad}
use Rattle.zone_place.specs.Zones.{InZone, zone_most, all_asked, within, with_zone, zones_of, counted, in_line}
use Rattle.zone_place.specs.Dealing.{lower, lowered, zone_from}
use Rattle.zone_place.specs.Choosing.{online_placed}
use Rattle.zone_place.proofs.Zoning.{AllAbove, Rising, above_weaker, rising_zones}
use Rattle.zone_place.proofs.Counting.{drives_of}

-- ---- the drives of a zone

-- the first of a zone
abbrev pub front : (zone most : ℕ) → List ZoneLoad → List ℕ
front zone most ls = take most (drives_of (within zone (online_placed ls)))

pub front_more : (zone left : ℕ) (l : ZoneLoad) (ls : List ZoneLoad) → 0 < left → l.online ≡ true → l.zone ≡ zone
    → front zone left (l ∷ ls) ≡ l.drive ∷ front zone (left - 1) ls
front_more zone zero l ls some on here = absurd (omega (arith, some))
front_more zone (suc left) l ls some on here =
    let less : suc left - 1 ≡ left = omega arith in
    rw (on, eq-eqb l.zone zone here, less) refl

pub front_offline : (zone left : ℕ) (l : ZoneLoad) (ls : List ZoneLoad) → l.online ≡ false →
    front zone left (l ∷ ls) ≡ front zone left ls
front_offline zone left l ls off = rw off refl

pub front_other : (zone left : ℕ) (l : ZoneLoad) (ls : List ZoneLoad) → (l.zone ≡ zone → ⊥) →
    front zone left (l ∷ ls) ≡ front zone left ls
front_other zone left l ls other = elim (cases_Bool l.online) [
  | inl on ↦ rw (on, ne_eqb l.zone zone other) refl
  | inr off ↦ rw off refl
]

-- ---- the lowest zone

-- of what was found and what is found behind, the lower
abbrev pub lowest_of : Option ℕ → Option ℕ → Option ℕ
lowest_of None o = o
lowest_of (Some z) o = lower z o

pub lowest_more : (found : Option ℕ) (z : ℕ) (o : Option ℕ) → lowest_of (lowered found z) o ≡ lowest_of found (lower z o)
lowest_more None z o = refl
lowest_more (Some y) z None = elim (cases_lt z y) [
  | inl lt ↦ rw (lt-leb y z lt) refl
  | inr ge ↦ rw (le-leb y z ge) refl
]
lowest_more (Some y) z (Some x) = elim (cases_lt z y) [
  | inl lt ↦ elim (cases_lt x z) [
    | inl less ↦ rw (lt-leb y z lt, lt-leb z x less, lt-leb y x (omega (arith, lt, less))) refl
    | inr more ↦ rw (lt-leb y z lt, le-leb z x more) (rw (lt-leb y z lt) refl)
  ]
  | inr ge ↦ elim (cases_lt x z) [
    | inl less ↦ rw (le-leb y z ge, lt-leb z x less) refl
    | inr more ↦ rw (le-leb y z ge, le-leb z x more) (rw (le-leb y z ge, le-leb y x (omega (arith, ge, more))) refl)
  ]
]

pub lowest_none : (found : Option ℕ) → lowest_of found None ≡ found
lowest_none None = refl
lowest_none (Some z) = refl

-- ---- zone after zone

abbrev pub zones_from : (lowest : ℕ) → List ℕ → List ℕ
zones_from lowest zs = filter (λ z. nat_le lowest z) zs

-- the line of the zones from one on
abbrev pub line_from : ZoneAsk → (lowest : ℕ) → List InZone → List ℕ
line_from ask lowest ds = flat_map (λ z. take (zone_most ask) (drives_of (within z ds))) (zones_from lowest (zones_of ds))

abbrev first : List ℕ → Option ℕ
first [] = None
first (z ∷ zs) = Some z

lower_first : (p : ℕ → Bool) (z : ℕ) (zs : List ℕ) → AllAbove z zs → lower z (first (filter p zs)) ≡ Some z
lower_first p z [] a = refl
lower_first p z (y ∷ ys) a = elim (cases_Bool (p y)) [
  | inl on ↦ rw (on, le-leb z y (omega (arith, a.0))) refl
  | inr off ↦ rw off (lower_first p z ys a.1)
]

first_with : (p : ℕ → Bool) (z : ℕ) (zs : List ℕ) → Rising zs
    → first (filter p (with_zone z zs)) ≡ (if p z then lower z (first (filter p zs)) else first (filter p zs))
unfolding with_zone
first_with p z [] r = elim (cases_Bool (p z)) [
  | inl on ↦ rw on refl
  | inr off ↦ rw off refl
]
first_with p z (y ∷ ys) r = elim (cases_eq z y) [
  | inl e ↦ rw (eq-eqb z y e, e) (same (p y) refl)
  | inr ne ↦ elim (cases_lt z y) [
    | inl lt ↦ rw (ne_eqb z y ne, lt-ltb z y lt) (below (p z) lt)
    | inr ge ↦ rw (ne_eqb z y ne, le-ltb z y ge) (above (p y) (omega (arith, ge, ne)) (first_with p z ys r.1))
  ]
]
  where
    same : (b : Bool) → p y ≡ b →
        first (filter p (y ∷ ys)) ≡ (if p y then lower y (first (filter p (y ∷ ys))) else first (filter p (y ∷ ys)))
    same true on = rw (on, le-leb y y (omega arith)) refl
    same false off = rw off refl

    below : (b : Bool) → z < y →
        first (if b then z ∷ filter p (y ∷ ys) else filter p (y ∷ ys))
        ≡ (if b then lower z (first (filter p (y ∷ ys))) else first (filter p (y ∷ ys)))
    below true lt = sym (lower_first p z (y ∷ ys) (lt, above_weaker z y ys lt r.0))
    below false lt = refl

    above : (b : Bool) → y < z →
        first (filter p (with_zone z ys)) ≡ (if p z then lower z (first (filter p ys)) else first (filter p ys))
        → first (if b then y ∷ filter p (with_zone z ys) else filter p (with_zone z ys))
        ≡ (if p z then lower z (first (if b then y ∷ filter p ys else filter p ys)) else first
        (if b then y ∷ filter p ys else filter p ys))
    above true lt more = elim (cases_Bool (p z)) [
      | inl on ↦ rw (on, lt-leb z y lt) refl
      | inr off ↦ rw off refl
    ]
    above false lt more = more

pub first_zone : (lowest : ℕ) (ds : List InZone) → zone_from lowest ds ≡ first (zones_from lowest (zones_of ds))
unfolding zone_from zones_of
first_zone lowest [] = refl
first_zone lowest (d ∷ ds) =
    rw (first_zone lowest ds) (sym (first_with (λ z. nat_le lowest z) d.zone (zones_of ds) (rising_zones ds)))

rest_above : (lowest y : ℕ) (ys : List ℕ) → lowest ≤ y → AllAbove y ys → zones_from lowest ys ≡ zones_from (y + 1) ys
rest_above lowest y [] l a = refl
rest_above lowest y (z ∷ zs) l a =
    rw (le-leb lowest z (omega (arith, l, a.0)), le-leb (y + 1) z (omega (arith, a.0)))
    (ap (λ (l : List ℕ). z ∷ l) (rest_above lowest y zs l a.1))

from_first : (lowest z : ℕ) (zs : List ℕ) → Rising zs → first (zones_from lowest zs) ≡ Some z →
    (lowest ≤ z) × (zones_from lowest zs ≡ z ∷ zones_from (z + 1) zs)
from_first lowest z [] r e = absurd (cc e)
from_first lowest z (y ∷ ys) r e = elim (cases_lt y lowest) [
  | inl lt ↦
      let later = from_first lowest z ys r.1 (rw (lt-leb lowest y lt) at e) in
      (later.0, rw (lt-leb lowest y lt, lt-leb (z + 1) y (omega (arith, lt, later.0))) later.1)
  | inr ge ↦
      let here : y ≡ z = same (rw (le-leb lowest y ge) at e) in (
        omega (arith, ge, here),
        rw (le-leb lowest y ge, lt-leb (z + 1) y (omega (arith, here)), here)
            (ap (λ (l : List ℕ). z ∷ l) (rest_above lowest z ys (omega (arith, ge, here)) (rw here at r.0))),
      )
]
  where
    same : {a b : ℕ} → Some a ≡ Some b → a ≡ b
    same e = cc e

pub no_zone : (lowest : ℕ) (ds : List InZone) → zone_from lowest ds ≡ None → zones_from lowest (zones_of ds) ≡ []
no_zone lowest ds e = empty (zones_from lowest (zones_of ds)) (sym (first_zone lowest ds) ∙ e)
  where
    empty : (zs : List ℕ) → first zs ≡ None → zs ≡ []
    empty [] f = refl
    empty (z ∷ zs) f = absurd (cc f)

pub next_zone_is : (lowest z : ℕ) (ds : List InZone) → zone_from lowest ds ≡ Some z
    → (lowest ≤ z) × (zones_from lowest (zones_of ds) ≡ z ∷ zones_from (z + 1) (zones_of ds))
next_zone_is lowest z ds e = from_first lowest z (zones_of ds) (rising_zones ds) (sym (first_zone lowest ds) ∙ e)

all_zones : (zs : List ℕ) → zones_from 0 zs ≡ zs
all_zones [] = refl
all_zones (z ∷ zs) = rw (le-leb 0 z (omega arith)) (ap (λ (l : List ℕ). z ∷ l) (all_zones zs))

pub line_more : (ask : ZoneAsk) (lowest z : ℕ) (ds : List InZone) → zone_from lowest ds ≡ Some z
    → line_from ask lowest ds ≡ take (zone_most ask) (drives_of (within z ds)) ++ line_from ask (z + 1) ds
line_more ask lowest z ds e = rw (next_zone_is lowest z ds e).1 refl

pub line_over : (ask : ZoneAsk) (lowest : ℕ) (ds : List InZone) → zone_from lowest ds ≡ None → line_from ask lowest ds ≡ []
line_over ask lowest ds e = rw (no_zone lowest ds e) refl

pub whole_line : (ask : ZoneAsk) (ds : List InZone) → take (all_asked ask) (line_from ask 0 ds) ≡ in_line ask ds
whole_line ask ds = rw (all_zones (zones_of ds)) refl

pub counted_push : (f : ℕ → List ℕ) (a m : ℕ) → flat_map f (counted a (suc m)) ≡ flat_map f (counted a m) ++ f (a + m)
unfolding counted
counted_push f a zero =
    let here : a + 0 ≡ a = omega arith in
    rw here (append-nil (f a))
counted_push f a (suc m) =
    let next : a + 1 + m ≡ a + suc m = omega arith in
    ap (λ (l : List ℕ). f a ++ l) (counted_push f (a + 1) m ∙ ap (λ (k : ℕ). flat_map f (counted (a + 1) m) ++ f k) next)
    ∙ sym (append_assoc (f a) (flat_map f (counted (a + 1) m)) (f (a + suc m)))
