-- One load more, as the loops over loads take it.
use Rattle.std.proofs.Common.{◌≡◌, ℕ, zero, suc, ◌+◌, ◌-◌, ◌<◌, ◌≤◌, List, [], ◌∷◌, length, get_or, drop, Bool, true, false, refl, ◌∙◌, ap, arith}
use Rattle.std.specs.List.{filter}
use Rattle.std.proofs.lemmas.Bool.{le-leb, lt-leb, lt-ltb, le-ltb}
use Rattle.std.proofs.Math.ListN.{drop_of_length-le}
use Rattle.std.proofs.lemmas.List.{drop_more, drop-drop}
use Rattle.zone_place.specs.declared.asks.ZoneAsk.{ZoneAsk}
use Rattle.zone_place.specs.declared.loads.ZoneLoad.{ZoneLoad}
use Rattle.zone_place.specs.Zones.{zone_most, within, zones_of, room, every}
use Rattle.zone_place.specs.Dealing.{lower, zone_from}
use Rattle.zone_place.specs.Choosing.{online_placed, earlier, first_of}
use Rattle.zone_place.proofs.Zoning.{room_more}
use Rattle.zone_place.proofs.Lines.{front, front_more, front_offline, front_other}

-- ---- room

pub room_taken : (ask : ZoneAsk) (l : ZoneLoad) (ls : List ZoneLoad) → l.online ≡ true →
    length (within l.zone (online_placed ls)) < zone_most ask
    → room ask (online_placed (l ∷ ls)) ≡ room ask (online_placed ls) + 1
room_taken ask l ls on some =
    rw (
      on,
      room_more ask (record { drive = l.drive; zone = l.zone }) (online_placed ls),
      lt-ltb (length (within l.zone (online_placed ls))) (zone_most ask) some,
    ) refl

pub room_full : (ask : ZoneAsk) (l : ZoneLoad) (ls : List ZoneLoad) → l.online ≡ true →
    zone_most ask ≤ length (within l.zone (online_placed ls))
    → room ask (online_placed (l ∷ ls)) ≡ room ask (online_placed ls)
room_full ask l ls on full =
    rw (
      on,
      room_more ask (record { drive = l.drive; zone = l.zone }) (online_placed ls),
      le-ltb (length (within l.zone (online_placed ls))) (zone_most ask) full,
    ) (omega arith)

pub room_offline : (ask : ZoneAsk) (l : ZoneLoad) (ls : List ZoneLoad) → l.online ≡ false →
    room ask (online_placed (l ∷ ls)) ≡ room ask (online_placed ls)
room_offline ask l ls off = rw off refl

pub no_load : (ls : List ZoneLoad) → length ls ≡ 0 → ls ≡ []
no_load [] e = refl
no_load (l ∷ ls) e = absurd (omega (arith, e))

pub no_room : (ask : ZoneAsk) → room ask [] ≡ 0
unfolding zones_of
no_room ask = refl

-- ---- the load at a place

abbrev pub load_at : List ZoneLoad → ℕ → ZoneLoad
load_at ls i = get_or ls i (record { drive = 0; online = false; objects = 0; zone = 0 })

pub first_load : (ls : List ZoneLoad) (i : ℕ) → i < length ls → drop i ls ≡ load_at ls i ∷ drop (i + 1) ls
first_load ls i l = drop_more ls i (record { drive = 0; online = false; objects = 0; zone = 0 }) l

pub zone_counts : (lowest : ℕ) (ls : List ZoneLoad) (i : ℕ) → i < length ls → (load_at ls i).online ≡ true →
    lowest ≤ (load_at ls i).zone
    → zone_from lowest (online_placed (drop i ls)) ≡ lower (load_at ls i).zone
    (zone_from lowest (online_placed (drop (i + 1) ls)))
unfolding zone_from
zone_counts lowest ls i l on high = rw (first_load ls i l, on, le-leb lowest (load_at ls i).zone high) refl

pub zone_low : (lowest : ℕ) (ls : List ZoneLoad) (i : ℕ) → i < length ls → (load_at ls i).online ≡ true →
    (load_at ls i).zone < lowest
    → zone_from lowest (online_placed (drop i ls)) ≡ zone_from lowest (online_placed (drop (i + 1) ls))
unfolding zone_from
zone_low lowest ls i l on low = rw (first_load ls i l, on, lt-leb lowest (load_at ls i).zone low) refl

pub zone_offline : (lowest : ℕ) (ls : List ZoneLoad) (i : ℕ) → i < length ls → (load_at ls i).online ≡ false
    → zone_from lowest (online_placed (drop i ls)) ≡ zone_from lowest (online_placed (drop (i + 1) ls))
zone_offline lowest ls i l off = rw (first_load ls i l, off) refl

pub first_takes : (p : ZoneLoad → Bool) (ls : List ZoneLoad) (i : ℕ) → i < length ls → p (load_at ls i) ≡ true
    → first_of (filter p (drop i ls)) ≡ earlier (load_at ls i) (first_of (filter p (drop (i + 1) ls)))
unfolding first_of
first_takes p ls i l on = rw (first_load ls i l, on) refl

pub first_leaves : (p : ZoneLoad → Bool) (ls : List ZoneLoad) (i : ℕ) → i < length ls → p (load_at ls i) ≡ false
    → first_of (filter p (drop i ls)) ≡ first_of (filter p (drop (i + 1) ls))
first_leaves p ls i l off = rw (first_load ls i l, off) refl

pub past_end : (ls : List ZoneLoad) (i : ℕ) → length ls ≤ i → drop i ls ≡ []
past_end ls i l = drop_of_length-le ls l

-- ---- the drives of a zone

pub front_counts : (zone left : ℕ) (ls : List ZoneLoad) (i : ℕ) → i < length ls → 0 < left → (load_at ls i).online ≡ true →
    (load_at ls i).zone ≡ zone
    → front zone left (drop i ls) ≡ (load_at ls i).drive ∷ front zone (left - 1) (drop (i + 1) ls)
front_counts zone left ls i l some on here =
    rw (first_load ls i l) (front_more zone left (load_at ls i) (drop (i + 1) ls) some on here)

pub front_done : (zone left : ℕ) (ls : List ZoneLoad) (i : ℕ) → i < length ls → left ≤ 0 →
    front zone left (drop i ls) ≡ front zone left (drop (i + 1) ls)
front_done zone zero ls i l none = refl
front_done zone (suc left) ls i l none = absurd (omega (arith, none))

pub front_leaves_offline : (zone left : ℕ) (ls : List ZoneLoad) (i : ℕ) → i < length ls → (load_at ls i).online ≡ false
    → front zone left (drop i ls) ≡ front zone left (drop (i + 1) ls)
front_leaves_offline zone left ls i l off = rw (first_load ls i l) (front_offline zone left (load_at ls i) (drop (i + 1) ls) off)

pub front_leaves_other : (zone left : ℕ) (ls : List ZoneLoad) (i : ℕ) → i < length ls → ((load_at ls i).zone ≡ zone → ⊥)
    → front zone left (drop i ls) ≡ front zone left (drop (i + 1) ls)
front_leaves_other zone left ls i l other = rw (first_load ls i l) (front_other zone left (load_at ls i) (drop (i + 1) ls) other)

-- ---- each drive whose turn it is

pub every_from : (q w : ℕ) (xs : List ℕ) → every q w xs ≡ every q 0 (drop w xs)
unfolding every
every_from q zero xs = refl
every_from q (suc w) [] = refl
every_from q (suc w) (x ∷ xs) = every_from q w xs

pub every_at : (q i : ℕ) (xs : List ℕ) → 0 < q → i < length xs →
    every q 0 (drop i xs) ≡ get_or xs i 0 ∷ every q 0 (drop (i + q) xs)
unfolding every
every_at q i xs some l =
    let far : i + 1 + (q - 1) ≡ i + q = omega (arith, some) in
    rw (drop_more xs i 0 l) (ap (λ (ys : List ℕ). get_or xs i 0 ∷ ys) (every_from q (q - 1) (drop (i + 1) xs)
    ∙ ap (every q 0) (drop-drop (q - 1) (i + 1) xs ∙ ap (λ k. drop k xs) far)))

pub every_none : (q i : ℕ) (xs : List ℕ) → length xs ≤ i → every q 0 (drop i xs) ≡ []
unfolding every
every_none q i xs l = rw (drop_of_length-le xs l) refl
