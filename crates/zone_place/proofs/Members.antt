-- What a spread's drives are, however few there are.
use Rattle.std.proofs.Common.{◌≡◌, ℕ, ◌+◌, ◌≤◌, List, [], ◌∷◌, length, Bool, true, ◌&&◌, not, refl, arith, inl, inr}
use Rattle.std.specs.Prelude.{◌==◌}
use Rattle.std.specs.List.{list_any, list_all}
use Rattle.std.proofs.lemmas.Bool.{cases_Bool, eq-eqb, and_parts}
use Rattle.zone_place.specs.declared.asks.ZoneAsk.{ZoneAsk}
use Rattle.zone_place.specs.Zones.{InZone, AreDifferent, all_asked, has_room, are_among, spreads, dealt, spread}
use Rattle.zone_place.proofs.Counting.{times, drives_of, is_there}
use Rattle.zone_place.proofs.Spreading.{dealt_times, dealt_among, dealt_length, spread_parts}

-- each number is of one of these drives
abbrev pub are_there : List InZone → List ℕ → Bool
are_there ds ns = list_all (λ n. list_any (λ d. d.drive == n) ds) ns

among_there : (ds : List InZone) (ns : List ℕ) → are_among ds ns ≡ true → are_there ds ns ≡ true
unfolding are_among
among_there ds [] e = refl
among_there ds (n ∷ ns) e =
    let first = and_parts (list_any (λ d. d.drive == n) ds) (not (list_any (λ k. k == n) ns) && are_among ds ns) e in
    let second = and_parts (not (list_any (λ k. k == n) ns)) (are_among ds ns) first.1 in
    rw first.0 (among_there ds ns second.1)

less_there : (ds : List InZone) (ns : List ℕ) → ((n : ℕ) → times n ns ≤ times n (drives_of ds)) → are_there ds ns ≡ true
less_there ds [] less = refl
less_there ds (n ∷ ns) less =
    let first : times n (n ∷ ns) ≡ 1 + times n ns = rw (eq-eqb n n refl) refl in
    rw (is_there n ds (omega (arith, first, less n))) (less_there ds ns (λ m. omega (arith, less m)))

pub spread_there : (ask : ZoneAsk) (ds : List InZone) (chosen : List ℕ) → are_there ds (spread ask ds chosen) ≡ true
spread_there ask ds chosen = elim (cases_Bool (spreads ask ds chosen)) [
  | inl e ↦ rw e (among_there ds chosen (spread_parts ask ds chosen e).1)
  | inr e ↦ rw e (less_there ds (dealt ask ds) (dealt_times ask ds))
]

pub spread_different : (ask : ZoneAsk) (ds : List InZone) (chosen : List ℕ) → AreDifferent ds
    → are_among ds (spread ask ds chosen) ≡ true
spread_different ask ds chosen a = elim (cases_Bool (spreads ask ds chosen)) [
  | inl e ↦ rw e (spread_parts ask ds chosen e).1
  | inr e ↦ rw e (dealt_among ask ds a)
]

pub spread_many : (ask : ZoneAsk) (ds : List InZone) (chosen : List ℕ) → has_room ask ds ≡ true
    → length (spread ask ds chosen) ≡ all_asked ask
spread_many ask ds chosen r = elim (cases_Bool (spreads ask ds chosen)) [
  | inl e ↦ rw e (spread_parts ask ds chosen e).0
  | inr e ↦ rw e (dealt_length ask ds r)
]
