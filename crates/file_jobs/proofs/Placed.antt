-- The drives that are free for a file, by their loads and by the drives.
use Rattle.std.specs.Prelude.{ℕ, Bool, true, false, List, [], ◌∷◌, Option, Some, refl, ◌≡◌, ◌+◌, ◌≤◌, ◌<◌, ◌==◌, ◌&&◌, not, nat_eq, cond, find, is_some, length, count_by, slice_get, All}
use Rattle.std.proofs.Common.{arith, inl, inr, ap, subst, ◌∙◌}
use Rattle.std.proofs.lemmas.List.{length-map}
use Rattle.std.proofs.lemmas.Bool.{cases_Bool, and_right}
use Rattle.std.proofs.lemmas.List.Sums.{sum_by-cons}
use Rattle.osd_lists.proofs.Tests.{other_true, first_true}
use Rattle.server_rules.specs.declared.files.Component.{Component}
use Rattle.server_rules.specs.declared.server.Drive.{Drive}
use Rattle.server_rules.specs.Standing.{free_drives, stood_on}
use Rattle.stripe_repair.specs.declared.loads.DriveLoad.{DriveLoad}
use Rattle.zone_place.specs.declared.loads.TheConstants.{MAX_DRIVES}
use Rattle.stripe_repair.specs.Placing.{AreDifferent, CanPlace, FitsLoad, Places, drives_of, is_online}
use Rattle.file_jobs.specs.Placing.{AreLoadsOf, free_load, free_loads, IsAmong}

-- one load more
pub tail_of : (l : DriveLoad) (ls : List DriveLoad) (d : Drive) (ds : List Drive) → AreLoadsOf (l ∷ ls) (d ∷ ds) →
    (l.drive ≡ d.number) × (l.online ≡ d.online) × AreLoadsOf ls ds × (l.zone ≡ d.zone)
tail_of l ls d ds e =
    let h : (l.drive, l.online, l.zone) ≡ (d.number, d.online, d.zone) = cc e in
    let rest : AreLoadsOf ls ds = cc e in (
      ap (λ (p : ℕ × Bool × Option ℕ). p.0) h,
      ap (λ (p : ℕ × Bool × Option ℕ). p.1) h,
      rest,
      ap (λ (p : ℕ × Bool × Option ℕ). p.2) h,
    )

-- how many are online
counted : (b : Bool) (n m : ℕ) → n ≡ cond b 1 0 + m → n ≡ 0 → (b ≡ false) × (m ≡ 0)
counted true n m e z = absurd (omega (arith, e, z))
counted false n m e z = (refl, omega (arith, e, z))

-- a load that isn't online is that of a drive that isn't free
kept_out : (cs : List Component) (d : Drive) (ds : List Drive) → (d.online && not (stood_on d.number cs)) ≡ false →
    free_drives (d ∷ ds) cs ≡ free_drives ds cs
kept_out cs d ds e = rw e refl

taken_in : (cs : List Component) (d : Drive) (ds : List Drive) → (d.online && not (stood_on d.number cs)) ≡ true →
    free_drives (d ∷ ds) cs ≡ d ∷ free_drives ds cs
taken_in cs d ds e = rw e refl

-- where no load is online, no drive is free
pub none_free : (cs : List Component) (loads : List DriveLoad) (ds : List Drive) → AreLoadsOf loads ds →
    count_by (λ l. l.online) (free_loads cs loads) ≡ 0 → free_drives ds cs ≡ []
none_free cs [] [] e z = refl
none_free cs [] (d ∷ ds) e z = absurd (cc e)
none_free cs (l ∷ ls) [] e z = absurd (cc e)
none_free cs (l ∷ ls) (d ∷ ds) e z =
    let t = tail_of l ls d ds e in
    let s = counted (free_load cs l).online _ _
    (sum_by-cons (λ (x : DriveLoad). cond x.online 1 0) (free_load cs l) (free_loads cs ls)) z in
    let f : (d.online && not (stood_on d.number cs)) ≡ false = rw (← t.0, ← t.1) s.0 in
    kept_out cs d ds f ∙ none_free cs ls ds t.2 s.1

-- an online load among them is that of a free drive
pub free_found : (cs : List Component) (loads : List DriveLoad) (ds : List Drive) (drive : ℕ) → AreLoadsOf loads ds →
    is_online (free_loads cs loads) drive ≡ true → is_some (find (λ d. d.number == drive) (free_drives ds cs)) ≡ true
free_found cs [] ds drive e t = absurd (cc t)
free_found cs (l ∷ ls) [] drive e t = absurd (cc e)
free_found cs (l ∷ ls) (d ∷ ds) drive e t =
    let h = tail_of l ls d ds e in
    elim (cases_Bool (d.online && not (stood_on d.number cs))) [
      | inl f ↦ rw (taken_in cs d ds f) (elim (cases_Bool (d.number == drive)) [
        | inl s ↦ rw s refl
        | inr s ↦ rw s
            (free_found cs ls ds drive h.2 (other_true (nat_eq l.drive drive && (free_load cs l).online) _ t (rw (h.0, s) refl)))
      ])
      | inr f ↦ rw (kept_out cs d ds f)
          (free_found cs ls ds drive h.2
          (other_true (nat_eq l.drive drive && (free_load cs l).online) _ t
          (and_right (nat_eq l.drive drive) _ (rw (h.0, h.1) f))))
    ]

-- one place may be asked of the free ones, if there are any
pub can_place : (cs : List Component) (loads : List DriveLoad) → length loads ≤ MAX_DRIVES → All FitsLoad (free_loads cs loads) →
    AreDifferent (drives_of loads) → 0 < count_by (λ l. l.online) (free_loads cs loads) → CanPlace 1 (free_loads cs loads)
can_place cs loads few fits different some = record {
  few = rw (length-map loads (free_load cs)) few;
  fits = fits;
  different = rw (same_drives cs loads) different;
  enough = omega (arith, some);
}
  where
    same_drives : (cs : List Component) (loads : List DriveLoad) → drives_of (free_loads cs loads) ≡ drives_of loads
    same_drives cs [] = refl
    same_drives cs (l ∷ ls) = ap (λ (xs : List ℕ). l.drive ∷ xs) (same_drives cs ls)

-- the one that was chosen
pub chosen_is_free : (cs : List Component) (loads : List DriveLoad) (ds : List Drive) (chosen : List ℕ) (drive : ℕ) →
    AreLoadsOf loads ds → Places 1 (free_loads cs loads) (drive ∷ chosen) → IsAmong (free_drives ds cs) (Some drive)
chosen_is_free cs loads ds chosen drive e p = free_found cs loads ds drive e (first_true _ _ p.online)

pub picked_free : (cs : List Component) (loads : List DriveLoad) (ds : List Drive) (chosen : List ℕ) (drive : ℕ) →
    AreLoadsOf loads ds → Places 1 (free_loads cs loads) chosen → slice_get chosen 0 ≡ Some drive →
    IsAmong (free_drives ds cs) (Some drive)
picked_free cs loads ds [] drive e p g = absurd (cc g)
picked_free cs loads ds (x ∷ xs) drive e p g =
    chosen_is_free cs loads ds xs drive e (subst (λ y. Places 1 (free_loads cs loads) (y ∷ xs)) (cc g) p)
