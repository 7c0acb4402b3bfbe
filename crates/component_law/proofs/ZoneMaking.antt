-- A zoned file that is made is spread.
use Rattle.std.proofs.Common.{◌≡◌, ℕ, zero, suc, ◌+◌, ◌-◌, ◌*◌, ◌/◌, ◌≤◌, ◌<◌, ◌==◌, ◌&&◌, ◌||◌, not, nat_le, nat_lt, ◌∷◌, [], List, Bool, true, false, None, length, filter, take, drop, if◌then◌else◌, refl, sym, ap, subst, ◌∙◌, arith, inl, inr}
use Rattle.std.specs.List.{list_any, list_all}
use Rattle.std.proofs.Math.Nat.{div-eq_of_lt-le, div-lt_iff_lt-mul, le-div_iff_mul-le, mul-le-mul_right}
use Rattle.std.proofs.lemmas.Bool.{cases_Bool, cases_eq, cases_lt, eq-eqb, ne_eqb, leb-true, and_parts}
use Rattle.std.proofs.lemmas.List.{drop-take, length-drop, length-take}
use Rattle.zone_place.specs.declared.asks.ZoneAsk.{ZoneAsk}
use Rattle.zone_place.specs.declared.loads.Holder.{Holder}
use Rattle.zone_place.specs.Zones.{InZone, ask_of, all_asked, within, zones_of, stands_in, has_room, are_among, many_in, fits_zones, counted, group_at, spreads, spread}
use Rattle.zone_place.proofs.Spreading.{spread_spreads, spread_parts}
use Rattle.zone_place.proofs.Zoning.{none_within}
use Rattle.server_rules.specs.declared.server.Server.{Server}
use Rattle.server_rules.specs.declared.files.File.{File}
use Rattle.server_rules.specs.declared.files.Kept.{Kept}
use Rattle.server_rules.specs.declared.server.Drive.{Drive}
use Rattle.server_rules.specs.declared.files.Component.{Component}
use Rattle.data_map.specs.declared.check.RawMap.{RawMap}
use Rattle.server_rules.specs.Making.{online, components_on, unmade, drives_for, refusal, by_online, usable}
use Rattle.server_rules.specs.Zoning.{in_zones, holders_from}
use Rattle.server_rules.specs.Laws.{In}
use Rattle.server_rules.proofs.Placed.{not_refused}
use Rattle.server_rules.proofs.Components.{length_components}
use Rattle.component_law.specs.Apart.{AreDifferent}
use Rattle.component_law.proofs.Placing.{numbers}
use Rattle.component_law.specs.Spread.{of_group_in, has_zone, IsSpread, StaysSpread}
use Rattle.component_law.proofs.Zones.{same_online, different_online}
use Rattle.component_law.proofs.Holders.{counts}
use Rattle.component_law.proofs.Keeping.{spread_moved}

-- ---- its drives are in zones

placed_on : (ds : List InZone) (ns : List ℕ) (object k : ℕ) → are_among ds ns ≡ true → (h : Holder)
    → In h (holders_from (components_on ns object) k) → has_zone ds h.drive ≡ true
unfolding are_among components_on holders_from
placed_on ds [] object k e h i = absurd i
placed_on ds (n ∷ ns) object k e h (inl is) =
    let first = and_parts (list_any (λ d. d.drive == n) ds) (not (list_any (λ m. m == n) ns) && are_among ds ns) e in
    subst (λ (x : Holder). has_zone ds x.drive ≡ true) (sym is) first.0
placed_on ds (n ∷ ns) object k e h (inr i) =
    let first = and_parts (list_any (λ d. d.drive == n) ds) (not (list_any (λ m. m == n) ns) && are_among ds ns) e in
    let second = and_parts (not (list_any (λ m. m == n) ns)) (are_among ds ns) first.1 in
    placed_on ds ns (object + 1) (k + 1) second.1 h i

-- ---- those of a group are a slice of them

module _ (ask : ZoneAsk) (ds : List InZone) (j z : ℕ) (some : 0 < ask.size) where
  abbrev first : ℕ
  first = j * ask.size

  abbrev end : ℕ
  end = j * ask.size + ask.size

  abbrev stands : ℕ → Bool
  stands n = stands_in ds n z

  -- components before the group, in it, and behind it
  before_group : (k : ℕ) → k < first → (k / ask.size == j) ≡ false
  before_group k l =
      ne_eqb (k / ask.size) j (λ e. omega (arith, e, (div-lt_iff_lt-mul some).1 l))

  in_group : (k : ℕ) → first ≤ k → k < end → (k / ask.size == j) ≡ true
  in_group k low high =
      eq-eqb (k / ask.size) j
      (div-eq_of_lt-le ask.size (omega (arith, low)) (omega (arith, high)))

  behind_group : (k : ℕ) → end ≤ k → (k / ask.size == j) ≡ false
  behind_group k l =
      let more : (j + 1) * ask.size ≤ k = omega (arith, l) in
      let over : j + 1 ≤ k / ask.size = (le-div_iff_mul-le some).1 more in
      ne_eqb (k / ask.size) j (λ e. omega (arith, e, over))

  abbrev the_nil : List ℕ
  the_nil = []

  slice_of : (k : ℕ) → List ℕ → List ℕ
  slice_of k ns = drop (first - k) (take (end - k) ns)

  count_slice : (ns : List ℕ) (object k : ℕ)
      → length (filter (counts ask ds j z) (holders_from (components_on ns object) k)) ≡ length (filter stands (slice_of k ns))
  unfolding components_on holders_from slice_of
  count_slice [] object k = ap (λ (xs : List ℕ). length (filter stands xs)) (none (first - k) (end - k))
    where
      none : (a b : ℕ) → the_nil ≡ drop a (take b the_nil)
      none zero zero = refl
      none zero (suc b) = refl
      none (suc a) zero = refl
      none (suc a) (suc b) = refl
  count_slice (n ∷ ns) object k =
      let rest = count_slice ns (object + 1) (k + 1) in
      elim (cases_lt k first) [
        | inl l ↦
            let a : first - k ≡ suc (first - (k + 1)) = omega (arith, l) in
            let b : end - k ≡ suc (end - (k + 1)) = omega (arith, l) in
            rw (before_group k l, a, b) rest
        | inr l ↦ elim (cases_lt k end) [
          | inl m ↦
              let a : first - k ≡ 0 = omega (arith, l) in
              let next : first - (k + 1) ≡ 0 = omega (arith, l) in
              let b : end - k ≡ suc (end - (k + 1)) = omega (arith, m) in
              rw (in_group k l m, a, b) (one_more n (take (end - (k + 1)) ns)
              (holders_from (components_on ns (object + 1)) (k + 1)) (rw next at rest))
          | inr m ↦
              let a : first - k ≡ 0 = omega (arith, l) in
              let next : first - (k + 1) ≡ 0 = omega (arith, l) in
              let b : end - k ≡ 0 = omega (arith, m) in
              let c : end - (k + 1) ≡ 0 = omega (arith, m) in
              rw (behind_group k m, a, b) (rw (next, c) at rest)
        ]
      ]
    where
      one_more : (n : ℕ) (xs : List ℕ) (hs : List Holder)
          → length (filter (counts ask ds j z) hs) ≡ length (filter stands xs)
          → length (if stands n then record { component = k; drive = n } ∷ filter (counts ask ds j z) hs
          else filter (counts ask ds j z) hs) ≡ length (filter stands (n ∷ xs))
      one_more n xs hs e = elim (cases_Bool (stands n)) [ inl t ↦ rw t (ap suc e) | inr f ↦ rw f e ]

-- ---- no zone has too many of a group

none_stands : (ds : List InZone) (n z : ℕ) → within z ds ≡ [] → stands_in ds n z ≡ false
none_stands [] n z e = refl
none_stands (d ∷ ds) n z e = elim (cases_Bool (d.zone == z)) [
  | inl t ↦ absurd (cc (rw t at e))
  | inr f ↦ rw f (last (d.drive == n) (none_stands ds n z (rw f at e)))
]
  where
    last : (a : Bool) {b : Bool} → b ≡ false → ((a && false) || b) ≡ false
    last true e = e
    last false e = e

filter_none : (p : ℕ → Bool) (ns : List ℕ) → ((n : ℕ) → p n ≡ false) → filter p ns ≡ []
filter_none p [] e = refl
filter_none p (n ∷ ns) e = rw (e n) (filter_none p ns e)

few_filtered : (p : ℕ → Bool) (ns : List ℕ) → length (filter p ns) ≤ length ns
few_filtered p [] = omega arith
few_filtered p (n ∷ ns) = elim (cases_Bool (p n)) [
  | inl t ↦ rw t (omega (arith, few_filtered p ns))
  | inr f ↦ rw f (omega (arith, few_filtered p ns))
]

-- a test that all pass
at_zone : (p : ℕ → Bool) (xs : List ℕ) (z : ℕ) → list_all p xs ≡ true → list_any (λ y. z == y) xs ≡ true → p z ≡ true
at_zone p [] z all e = absurd (cc e)
at_zone p (x ∷ xs) z all e =
    let both = and_parts (p x) (list_all p xs) all in
    elim (cases_eq z x) [
      | inl same ↦ ap p same ∙ both.0
      | inr ne ↦ at_zone p xs z both.1 (rw (ne_eqb z x ne) at e)
    ]

at_count : (p : ℕ → Bool) (from many j : ℕ) → list_all p (counted from many) ≡ true → from ≤ j → j < from + many
    → p j ≡ true
unfolding counted
at_count p from zero j all low high = absurd (omega (arith, low, high))
at_count p from (suc n) j all low high =
    let both = and_parts (p from) (list_all p (counted (from + 1) n)) all in
    elim (cases_eq j from) [
      | inl same ↦ ap p same ∙ both.0
      | inr ne ↦ at_count p (from + 1) n j both.1 (omega (arith, low, ne)) (omega (arith, high))
    ]

few_in : (ask : ZoneAsk) (ds : List InZone) (group : List ℕ) (z : ℕ) → fits_zones ask ds group ≡ true
    → many_in ds z group ≤ ask.most
few_in ask ds group z fits = elim (cases_Bool (list_any (λ y. z == y) (zones_of ds))) [
  | inl t ↦ leb-true _ _ (at_zone (λ y. nat_le (many_in ds y group) ask.most) (zones_of ds) z fits t)
  | inr f ↦
      let none : filter (λ n. stands_in ds n z) group ≡ [] =
      filter_none (λ n. stands_in ds n z) group (λ n. none_stands ds n z (none_within z ds f)) in
      omega (arith, ap (λ (xs : List ℕ). length xs) none)
]

few_made : (ask : ZoneAsk) (ds : List InZone) (ns : List ℕ) (object j z : ℕ) → 0 < ask.size → spreads ask ds ns ≡ true
    → length (filter (counts ask ds j z) (holders_from (components_on ns object) 0)) ≤ ask.most
unfolding slice_of
few_made ask ds ns object j z some s =
    let parts = spread_parts ask ds ns s in
    let slice = count_slice ask ds j z some ns object 0 in
    let a : j * ask.size - 0 ≡ j * ask.size = omega arith in
    let b : j * ask.size + ask.size - 0 ≡ j * ask.size + ask.size = omega arith in
    let width : j * ask.size + ask.size - j * ask.size ≡ ask.size = omega arith in
    elim (cases_lt j ask.groups) [
      | inl l ↦
          let fits =
          at_count (λ i. fits_zones ask ds (group_at ask i ns)) 0 ask.groups j parts.2 (omega arith) (omega (arith, l)) in
          let few = few_in ask ds (group_at ask j ns) z fits in
          let cut : drop (j * ask.size - 0) (take (j * ask.size + ask.size - 0) ns) ≡ group_at ask j ns =
          rw (a, b, width) (drop-take (j * ask.size) ask.size ns) in
          omega (arith, slice, ap (λ (xs : List ℕ). many_in ds z xs) cut, few)
      | inr l ↦
          let over : ask.groups * ask.size ≤ j * ask.size = mul-le-mul_right ask.size l in
          omega (
            arith,
            slice,
            over,
            parts.0,
            few_filtered (λ n. stands_in ds n z) (drop (j * ask.size - 0) (take (j * ask.size + ask.size - 0) ns)),
            length-drop (j * ask.size - 0) (take (j * ask.size + ask.size - 0) ns),
            length-take (j * ask.size + ask.size - 0) ns,
          )
    ]

few_all : (ask : ZoneAsk) (ds : List InZone) (ns : List ℕ) (object j z : ℕ) → spreads ask ds ns ≡ true
    → length (filter (counts ask ds j z) (holders_from (components_on ns object) 0)) ≤ ask.most
unfolding components_on holders_from
few_all ask ds [] object j z s = omega arith
few_all ask ds (n ∷ ns) object j z s = elim (cases_eq ask.size 0) [
  | inl none ↦
      let parts = spread_parts ask ds (n ∷ ns) s in
      let zero_ : all_asked ask ≡ ask.groups * 0 = ap (λ (k : ℕ). ask.groups * k) none in
      absurd (omega (arith, parts.0, zero_))
  | inr some ↦ few_made ask ds (n ∷ ns) object j z (omega (arith, some)) s
]

-- ---- a new file

pub made_spread : (ds : List InZone) (f : Kept) (ns : List ℕ) (object : ℕ) → f.components ≡ components_on ns object
    → spreads (ask_of f.map) ds ns ≡ true → IsSpread ds f
made_spread ds f ns object is s =
    let parts = spread_parts (ask_of f.map) ds ns s in
    record {
      whole = ap (λ (cs : List Component). length cs) is ∙ length_components ns object ∙ parts.0;
      zoned = subst (λ (cs : List Component). (h : Holder) → In h (holders_from cs 0) → has_zone ds h.drive ≡ true) (sym is)
          (placed_on ds ns object 0 parts.1);
      few = subst (λ (cs : List Component).
          (j z : ℕ) → length (of_group_in (ask_of f.map) ds j z (holders_from cs 0)) ≤ (ask_of f.map).most) (sym is)
          (λ j z. few_all (ask_of f.map) ds ns object j z s);
    }

-- it isn't refused where its components can be spread
room_by : (m : RawMap) (ds : List Drive) → by_online m true ds ≡ None → has_room (ask_of m) (in_zones (online ds)) ≡ true
room_by m ds none = elim (cases_Bool (nat_lt (usable true ds) m.comps)) [
  | inl t ↦ absurd (cc (rw t at none))
  | inr z ↦ elim (cases_Bool (has_room (ask_of m) (in_zones (online ds)))) [
    | inl r ↦ r
    | inr r ↦ absurd (cc (rw (z, r) at none))
  ]
]

pub stays_made : (s : Server) (chosen : List ℕ) (n : ℕ) (m : RawMap) (tag : ℕ) (zoned : Bool) → AreDifferent (numbers s.drives)
    → refusal s n m zoned ≡ None → StaysSpread (in_zones s.drives) (unmade s n m tag zoned (drives_for zoned s.drives m chosen))
stays_made s chosen n m tag false a none e = absurd (cc e)
stays_made s chosen n m tag true a none e =
    let ds : List InZone = in_zones (online s.drives) in
    let f : File = unmade s n m tag true (drives_for true s.drives m chosen) in (
      spread_moved ds (in_zones s.drives) (same_online s.drives a) f.kept
          (made_spread ds f.kept (spread (ask_of m) ds chosen) s.next_object refl
          (spread_spreads (ask_of m) ds chosen (different_online s.drives a)
          (room_by m s.drives (not_refused s n m true none).drives))),
      tt,
    )
