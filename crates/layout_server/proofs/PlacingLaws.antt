-- Drives for a new file's components, by their loads and by the drives.
use Rattle.std.specs.Prelude.{ℕ, true, false, List, [], ◌∷◌, ◌≡◌, ◌≢◌, ◌+◌, ◌≤◌, ◌<◌, ◌==◌, ◌&&◌, nat_eq, cond, suc, zero, find, is_some, map, length, count_by, slice_index, slice_index_or, All, min, ◌^◌, ◌-◌, Result, Ok, Err, IfOk, refl}
use Rattle.std.specs.List.{list_all}
use Rattle.std.specs.Result.{ForOk}
use Rattle.std.proofs.Common.{arith, inl, inr, ap, sym, subst, ◌∙◌}
use Rattle.std.proofs.lemmas.Bool.{cases_Bool, and_right}
use Rattle.std.proofs.lemmas.Bool.Decides.{nat_tests}
use Rattle.std.proofs.lemmas.List.{length-map}
use Rattle.std.proofs.lemmas.List.Sums.{length-filter, sum_by-cons}
use Rattle.osd_lists.specs.declared.memory.Memory.{Memory}
use Rattle.osd_lists.proofs.Tests.{other_true, first_true, second_true}
use Rattle.server_rules.specs.declared.server.Drive.{Drive}
use Rattle.server_rules.specs.Numbers.{among}
use Rattle.server_rules.specs.Making.{online, are_of, places}
use Rattle.stripe_repair.specs.declared.loads.DriveLoad.{DriveLoad}
use Rattle.zone_place.specs.declared.loads.TheConstants.{MAX_DRIVES}
use Rattle.stripe_repair.specs.Placing.{AreDifferent, CanPlace, FitsLoad, Places, drives_of, is_online}
use Rattle.file_jobs.specs.Placing.{AreLoadsOf}
use Rattle.file_jobs.proofs.Placed.{tail_of}
use Rattle.server_state.specs.Drives.{RiseFrom, AreDrives}
use Rattle.server_state.specs.Standing.{AreCounted}
use Rattle.server_state.specs.Tables.{Table}
use Rattle.server_state.specs.Counts.{Counts, told}
use Rattle.layout_server.specs.Loads.{Tells}
use Rattle.layout_server.proofs.DriveLaws.{few_drives}

-- ---- the loads of drives

-- they have the numbers of the drives
same_numbers : (ls : List DriveLoad) (ds : List Drive) → AreLoadsOf ls ds → drives_of ls ≡ map (λ d. d.number) ds
same_numbers [] [] e = refl
same_numbers [] (d ∷ ds) e = absurd (cc e)
same_numbers (l ∷ ls) [] e = absurd (cc e)
same_numbers (l ∷ ls) (d ∷ ds) e =
    let t = tail_of l ls d ds e in
    rw t.0 (ap (λ (ns : List ℕ). d.number ∷ ns) (same_numbers ls ds t.2))

same_length : (ls : List DriveLoad) (ds : List Drive) → AreLoadsOf ls ds → length ls ≡ length ds
same_length [] [] e = refl
same_length [] (d ∷ ds) e = absurd (cc e)
same_length (l ∷ ls) [] e = absurd (cc e)
same_length (l ∷ ls) (d ∷ ds) e = ap suc (same_length ls ds (tail_of l ls d ds e).2)

-- ---- different numbers

-- none is below the least
not_below : (least : ℕ) (ds : List Drive) (j : ℕ) → RiseFrom least ds → j < length ds →
    least ≤ slice_index (map (λ d. d.number) ds) j
not_below least [] j r l = absurd (omega (arith, l))
not_below least (d ∷ ds) zero r l = r.0
not_below least (d ∷ ds) (suc j) r l =
    let behind : d.number + 1 ≤ slice_index (map (λ d. d.number) ds) j = not_below (d.number + 1) ds j r.2 (omega (arith, l)) in
    grind (arith, behind, r.0)

different_from : (least : ℕ) (ds : List Drive) → RiseFrom least ds → (i j : ℕ) → i < j → j < length ds →
    slice_index (map (λ d. d.number) ds) i ≢ slice_index (map (λ d. d.number) ds) j
different_from least [] r i j l m e = absurd (omega (arith, m))
different_from least (d ∷ ds) r i zero l m e = absurd (omega (arith, l))
different_from least (d ∷ ds) r zero (suc j) l m e =
    let behind : d.number + 1 ≤ slice_index (map (λ d. d.number) ds) j = not_below (d.number + 1) ds j r.2 (omega (arith, m)) in
    absurd (omega (arith, behind, e))
different_from least (d ∷ ds) r (suc i) (suc j) l m e =
    different_from (d.number + 1) ds r.2 i j (omega (arith, l)) (omega (arith, m)) e

pub different_drives : (ls : List DriveLoad) (ds : List Drive) → AreLoadsOf ls ds → AreDrives ds → AreDifferent (drives_of ls)
different_drives ls ds e r = subst (λ (ns : List ℕ). AreDifferent ns) (sym (same_numbers ls ds e))
    (λ i j l m. different_from 0 ds r i j l (subst (λ (n : ℕ). j < n) (length-map ds (λ d. d.number)) m))

-- ---- how many

counted_online : (ls : List DriveLoad) (ds : List Drive) → AreLoadsOf ls ds →
    count_by (λ l. l.online) ls ≡ count_by (λ d. d.online) ds
counted_online [] [] e = refl
counted_online [] (d ∷ ds) e = absurd (cc e)
counted_online (l ∷ ls) [] e = absurd (cc e)
counted_online (l ∷ ls) (d ∷ ds) e =
    let t = tail_of l ls d ds e in
    sum_by-cons (λ (x : DriveLoad). cond x.online 1 0) l ls
    ∙ rw (t.1, counted_online ls ds t.2) (sym (sum_by-cons (λ (x : Drive). cond x.online 1 0) d ds))

pub can_create : (ls : List DriveLoad) (ds : List Drive) (count : ℕ) → AreLoadsOf ls ds → All FitsLoad ls → AreDrives ds →
    count ≤ length (online ds) → CanPlace count ls
can_create ls ds count e fits r l = record {
  few = rw (same_length ls ds e) (few_drives ds r);
  fits = fits;
  different = different_drives ls ds e r;
  enough = rw (counted_online ls ds e, ← length-filter (λ (d : Drive). d.online) ds) l;
}

-- ---- what the placer names

kept_out : (d : Drive) (ds : List Drive) → d.online ≡ false → online (d ∷ ds) ≡ online ds
kept_out d ds e = rw e refl

taken_in : (d : Drive) (ds : List Drive) → d.online ≡ true → online (d ∷ ds) ≡ d ∷ online ds
taken_in d ds e = rw e refl

-- an online load among them is that of an online drive
online_found : (ls : List DriveLoad) (ds : List Drive) (drive : ℕ) → AreLoadsOf ls ds → is_online ls drive ≡ true →
    is_some (find (λ d. d.number == drive) (online ds)) ≡ true
online_found [] ds drive e t = absurd (cc t)
online_found (l ∷ ls) [] drive e t = absurd (cc e)
online_found (l ∷ ls) (d ∷ ds) drive e t =
    let h = tail_of l ls d ds e in
    elim (cases_Bool d.online) [
      | inl f ↦ rw (taken_in d ds f) (elim (cases_Bool (d.number == drive)) [
        | inl s ↦ rw s refl
        | inr s ↦ rw s (online_found ls ds drive h.2 (other_true (nat_eq l.drive drive && l.online) _ t (rw (h.0, s) refl)))
      ])
      | inr f ↦ rw (kept_out d ds f)
          (online_found ls ds drive h.2
          (other_true (nat_eq l.drive drive && l.online) _ t (and_right (nat_eq l.drive drive) _ (rw (h.1) f))))
    ]

-- a number that differs from all of these is none of them
none_among : (n : ℕ) (ns : List ℕ) → ((j : ℕ) → j < length ns → n ≢ slice_index ns j) → among n ns ≡ false
unfolding among
none_among n [] d = refl
none_among n (m ∷ ms) d = elim (cases_Bool (n == m)) [
  | inl same ↦ absurd (d 0 (omega arith) (grind (arith, nat_tests, same)))
  | inr other ↦ rw other (none_among n ms (λ j l. d (suc j) (omega (arith, l))))
]

-- different numbers of online drives are different numbers of these drives
are_online : (ls : List DriveLoad) (ds : List Drive) (chosen : List ℕ) → AreLoadsOf ls ds →
    list_all (is_online ls) chosen ≡ true → AreDifferent chosen → are_of (online ds) chosen ≡ true
unfolding are_of
are_online ls ds [] e o d = refl
are_online ls ds (n ∷ ns) e o d =
    let found : is_some (find (λ d. d.number == n) (online ds)) ≡ true = online_found ls ds n e (first_true _ _ o) in
    let other : among n ns ≡ false = none_among n ns (λ j l. d 0 (suc j) (omega arith) (omega (arith, l))) in
    let behind : are_of (online ds) ns ≡ true =
    are_online ls ds ns e (second_true _ _ o) (λ i j l m. d (suc i) (suc j) (omega (arith, l)) (omega (arith, m))) in
    rw (found, other, behind) refl

-- what the placer names is taken
pub placed : (ls : List DriveLoad) (ds : List Drive) (count : ℕ) (chosen : List ℕ) → AreLoadsOf ls ds → Places count ls chosen →
    places ds count chosen ≡ chosen
unfolding places
placed ls ds count chosen e p =
    let many : (length chosen == count) ≡ true = grind (arith, nat_tests, p.many) in
    rw (many, are_online ls ds chosen e p.online p.different) refl

-- the same of what it answers
pub placed_if : (r : Result (List ℕ) Memory) (ls : List DriveLoad) (ds : List Drive) (count : ℕ) → AreLoadsOf ls ds →
    ForOk r (Places count ls) →
    IfOk r (λ chosen. places ds count chosen ≡ chosen)
placed_if (Ok chosen) ls ds count e p = placed ls ds count chosen e (p chosen refl)
placed_if (Err m) ls ds count e p = tt

pub many_if : (r : Result (List ℕ) Memory) (ls : List DriveLoad) (count : ℕ) → ForOk r (Places count ls) →
    IfOk r (λ chosen. length chosen ≡ count)
many_if (Ok chosen) ls count p = (p chosen refl).many
many_if (Err m) ls count p = tt

-- ---- what the loads tell

-- each is of a drive with a low number
low_drive : (least : ℕ) (ls : List DriveLoad) (ds : List Drive) → AreLoadsOf ls ds → RiseFrom least ds → (k : ℕ) (x : DriveLoad) →
    k < length ls →
    (slice_index_or ls k x).drive < MAX_DRIVES
low_drive least [] ds e r k x l = absurd (omega (arith, l))
low_drive least (y ∷ ls) [] e r k x l = absurd (cc e)
low_drive least (y ∷ ls) (d ∷ ds) e r zero x l = subst (λ (n : ℕ). n < MAX_DRIVES) (sym (tail_of y ls d ds e).0) r.1
low_drive least (y ∷ ls) (d ∷ ds) e r (suc k) x l =
    low_drive (d.number + 1) ls ds (tail_of y ls d ds e).2 r.2 k x (omega (arith, l))

-- each tells what stands on its drive
pub all_tell : (ls : List DriveLoad) (ds : List Drive) (cs : Counts) (t : Table) → AreLoadsOf ls ds → AreDrives ds →
    AreCounted cs t →
    All (λ l. l.objects ≡ told cs l.drive) ls → All (Tells t) ls
all_tell ls ds cs t e r a h = λ k x l.
    h k x l ∙ ap (λ (n : ℕ). min n (2 ^ 32 - 1)) (a (slice_index_or ls k x).drive (low_drive 0 ls ds e r k x l))

-- what follows of the value, if there is one, of two facts
pub both_ok : {A : Type 0} {P Q R : A → Type 0} (r : Result A Memory) → ((a : A) → P a → Q a → R a) → IfOk r P → IfOk r Q →
    IfOk r R
both_ok (Ok a) f p q = f a p q
both_ok (Err e) f p q = tt

-- there are few loads
pub few_loads : (ls : List DriveLoad) (ds : List Drive) → AreLoadsOf ls ds → AreDrives ds → length ls ≤ MAX_DRIVES
few_loads ls ds e r = rw (same_length ls ds e) (few_drives ds r)
