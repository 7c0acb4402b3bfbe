-- What is said of drives with zones, said of loads.
use Rattle.std.proofs.Common.{◌≡◌, ℕ, List, [], ◌∷◌, ◌&&◌, ◌||◌, false, length, refl, ap, suc, inl, inr}
use Rattle.std.proofs.lemmas.Bool.{cases_Bool, or_parts}
use Rattle.std.specs.Prelude.{◌==◌}
use Rattle.std.specs.List.{list_any, filter}
use Rattle.zone_place.specs.declared.loads.ZoneLoad.{ZoneLoad}
use Rattle.zone_place.specs.Zones.{within, stands_in, AreDifferent}
use Rattle.zone_place.specs.Choosing.{all_placed, online_placed, AreApart}

pub stands_among : (drive zone : ℕ) (ls : List ZoneLoad) →
    list_any (λ l. (l.drive == drive) && (l.zone == zone)) ls ≡ stands_in (all_placed ls) drive zone
stands_among drive zone [] = refl
stands_among drive zone (l ∷ ls) = ap (λ b. ((l.drive == drive) && (l.zone == zone)) || b) (stands_among drive zone ls)

pub online_within : (zone : ℕ) (ls : List ZoneLoad) →
    length (filter (λ (l : ZoneLoad). l.online && (l.zone == zone)) ls) ≡ length (within zone (online_placed ls))
online_within zone [] = refl
online_within zone (l ∷ ls) = elim (cases_Bool l.online) [
  | inl on ↦ elim (cases_Bool (l.zone == zone)) [
    | inl here ↦ rw (on, here) (ap (λ n. suc n) (online_within zone ls))
    | inr there ↦ rw (on, there) (online_within zone ls)
  ]
  | inr off ↦ rw off (online_within zone ls)
]

not_among : (drive : ℕ) (ls : List ZoneLoad) → list_any (λ k. k.drive == drive) ls ≡ false →
    list_any (λ k. k.drive == drive) (online_placed ls) ≡ false
not_among drive [] h = refl
not_among drive (l ∷ ls) h =
    let parts = or_parts (l.drive == drive) (list_any (λ k. k.drive == drive) ls) h in
    elim (cases_Bool l.online) [
      | inl on ↦ rw (on, parts.0) (not_among drive ls parts.1)
      | inr off ↦ rw off (not_among drive ls parts.1)
    ]

pub online_different : (ls : List ZoneLoad) → AreApart ls → AreDifferent (online_placed ls)
unfolding AreApart AreDifferent
online_different [] a = tt
online_different (l ∷ ls) a = elim (cases_Bool l.online) [
  | inl on ↦ rw on (not_among l.drive ls a.0, online_different ls a.1)
  | inr off ↦ rw off (online_different ls a.1)
]
