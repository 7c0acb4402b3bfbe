-- Ranked loads are of the same drives.
use Rattle.std.specs.Prelude.{ℕ, Bool, List, [], ◌∷◌, ◌≡◌, ◌+◌, ◌≤◌, ◌||◌, ◌&&◌, nat_eq, cond, map, count_by, refl}
use Rattle.std.specs.List.{list_all}
use Rattle.std.proofs.Common.{arith, ap, sym, subst, ◌∙◌}
use Rattle.std.proofs.lemmas.List.{length-map}
use Rattle.std.proofs.lemmas.List.Elements.{All-map, All-weaker}
use Rattle.std.proofs.lemmas.List.Sums.{sum_by-cons}
use Rattle.stripe_repair.specs.declared.loads.DriveLoad.{DriveLoad}
use Rattle.stripe_repair.specs.Placing.{AreDifferent, CanPlace, FitsLoad, Places, drives_of, is_online}
use Rattle.program_tests.specs.Ranked.{ranked}

same_drives : (loads : List DriveLoad) → drives_of (map ranked loads) ≡ drives_of loads
same_drives [] = refl
same_drives (l ∷ ls) = ap (λ (rest : List ℕ). l.drive ∷ rest) (same_drives ls)

same_online : (loads : List DriveLoad) (d : ℕ) → is_online (map ranked loads) d ≡ is_online loads d
same_online [] d = refl
same_online (l ∷ ls) d = ap (λ (rest : Bool). (nat_eq l.drive d && l.online) || rest) (same_online ls d)

all_online : (loads : List DriveLoad) (chosen : List ℕ) →
    list_all (is_online (map ranked loads)) chosen ≡ list_all (is_online loads) chosen
all_online loads [] = refl
all_online loads (d ∷ ds) = rw (same_online loads d, all_online loads ds) refl

same_count : (loads : List DriveLoad) →
    count_by (λ (l : DriveLoad). l.online) (map ranked loads) ≡ count_by (λ (l : DriveLoad). l.online) loads
same_count [] = refl
same_count (l ∷ ls) =
    sum_by-cons (λ (x : DriveLoad). cond x.online 1 0) (ranked l) (map ranked ls)
    ∙ ap (λ (n : ℕ). cond l.online 1 0 + n) (same_count ls)
    ∙ sym (sum_by-cons (λ (x : DriveLoad). cond x.online 1 0) l ls)

ranked_fits : (l : DriveLoad) → FitsLoad l → FitsLoad (ranked l)
ranked_fits l h = (h.0, omega arith, h.2)

-- so many may be placed on them too
pub may_rank : (n : ℕ) (loads given : List DriveLoad) → given ≡ map ranked loads → CanPlace n loads → CanPlace n given
may_rank n loads given e can = rw e record {
  few = subst (λ (m : ℕ). m ≤ 64) (sym (length-map loads ranked)) can.few;
  fits = All-map FitsLoad ranked loads (All-weaker FitsLoad (λ (l : DriveLoad). FitsLoad (ranked l)) ranked_fits loads can.fits);
  different = subst AreDifferent (sym (same_drives loads)) can.different;
  enough = subst (λ (m : ℕ). n ≤ m) (sym (same_count loads)) can.enough;
}

-- and what is chosen of them is chosen of the loads
pub ranked_places : (n : ℕ) (loads given : List DriveLoad) (chosen : List ℕ) → given ≡ map ranked loads → Places n given chosen →
    Places n loads chosen
ranked_places n loads given chosen e places =
    let moved : Places n (map ranked loads) chosen = subst (λ (xs : List DriveLoad). Places n xs chosen) e places in record {
      many = moved.many;
      online = rw (all_online loads chosen) at moved.online;
      different = moved.different;
    }
