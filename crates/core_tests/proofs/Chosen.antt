-- The first online drives are different online drives.
use Rattle.std.specs.Prelude.{ℕ, Bool, true, false, List, [], ◌∷◌, ◌++◌, refl, zero, suc, ◌≡◌, ◌+◌, ◌<◌, ◌≤◌, ◌⊎◌, ◌||◌, ◌&&◌, nat_eq, nat_lt, cond, length, drop, count_by, slice_index, slice_index_or}
use Rattle.std.specs.List.{list_all, list_any}
use Rattle.std.proofs.Common.{arith, inl, inr, ap, sym, ◌∙◌, drop-cons, eq-eqb}
use Rattle.std.proofs.lemmas.Bool.{cases_Bool}
use Rattle.std.proofs.lemmas.Bool.Decides.{nat_tests}
use Rattle.std.proofs.lemmas.List.Sums.{sum_by-cons}
use Rattle.stripe_repair.specs.declared.loads.DriveLoad.{DriveLoad}
use Rattle.stripe_repair.specs.Placing.{AreDifferent, drives_of, is_online}
use Rattle.core_tests.specs.Choosing.{with_load}

-- of the loads before place i so many are chosen, and behind it there are enough for the rest
pub record Taken (chosen : List ℕ) (count i : ℕ) (all : List DriveLoad) : Type 0 where
  pub few : length chosen ≤ count
  pub enough : count ≤ length chosen + count_by (λ l. l.online) (drop i all)
  pub online : list_all (is_online all) chosen ≡ true
  pub placed : (k : ℕ) → k < length chosen → (j : ℕ) × (j < i) × (slice_index chosen k ≡ slice_index (drives_of all) j)
  pub different : AreDifferent chosen

-- the load at a place, and those behind it
counted : (all : List DriveLoad) (i : ℕ) (x : DriveLoad) → i < length all → x ≡ slice_index_or all i x →
    count_by (λ l. l.online) (drop i all) ≡ cond x.online 1 0 + count_by (λ l. l.online) (drop (i + 1) all)
counted all i x l e =
    let next : i + 1 ≡ suc i = omega arith in
    let here : drop i all ≡ x ∷ drop (suc i) all = drop-cons all i x l ∙ ap (λ (y : DriveLoad). y ∷ drop (suc i) all) (sym e) in
    rw (here, next) (sum_by-cons (λ (y : DriveLoad). cond y.online 1 0) x (drop (suc i) all))

same_more : (b : Bool) (n m count len : ℕ) → n ≡ cond b 1 0 + m → count ≤ len + n → (b ≡ false) ⊎ (count ≤ len) → count ≤ len + m
same_more true n m count len e l w = elim w [ inl f ↦ absurd (cc f) | inr q ↦ omega (arith, q) ]
same_more false n m count len e l w = omega (arith, e, l)

-- it isn't chosen
pub passed : (chosen : List ℕ) (count i : ℕ) (all : List DriveLoad) (x : DriveLoad) → i < length all →
    x ≡ slice_index_or all i x →
    (x.online ≡ false) ⊎ (count ≤ length chosen) → Taken chosen count i all → Taken chosen count (i + 1) all
passed chosen count i all x l e w t = record {
  few = t.few;
  enough = same_more x.online _ _ count (length chosen) (counted all i x l e) t.enough w;
  online = t.online;
  placed = λ k m. let p = t.placed k m in (p.0, omega (arith, p.1), p.2);
  different = t.different;
}

-- the load's drive is that of an online load
found : (all : List DriveLoad) (i : ℕ) (x : DriveLoad) → i < length all → x ≡ slice_index_or all i x → x.online ≡ true →
    is_online all x.drive ≡ true
found [] i x l e o = absurd (omega (arith, l))
found (y ∷ ys) zero x l e o =
    rw (← e) (both (nat_eq x.drive x.drive) x.online (list_any (λ z. nat_eq z.drive x.drive && z.online) ys)
    (eq-eqb x.drive x.drive refl) o)
  where
    both : (a b rest : Bool) → a ≡ true → b ≡ true → ((a && b) || rest) ≡ true
    both true true rest p q = refl
    both true false rest p q = absurd (cc q)
    both false b rest p q = absurd (cc p)
found (y ∷ ys) (suc i) x l e o = later (nat_eq y.drive x.drive && y.online) _ (found ys i x (omega (arith, l)) e o)
  where
    later : (a b : Bool) → b ≡ true → (a || b) ≡ true
    later true b p = refl
    later false b p = p

-- the drive at its place
drive_at : (all : List DriveLoad) (i : ℕ) (x : DriveLoad) → i < length all → x ≡ slice_index_or all i x →
    slice_index (drives_of all) i ≡ x.drive
drive_at [] i x l e = absurd (omega (arith, l))
drive_at (y ∷ ys) zero x l e = rw (← e) refl
drive_at (y ∷ ys) (suc i) x l e = drive_at ys i x (omega (arith, l)) e

many_drives : (all : List DriveLoad) → length (drives_of all) ≡ length all
many_drives [] = refl
many_drives (x ∷ xs) = ap suc (many_drives xs)

-- one more number
one_longer : (xs : List ℕ) (d : ℕ) → length (xs ++ d ∷ []) ≡ length xs + 1
one_longer [] d = refl
one_longer (x ∷ xs) d = omega (arith, one_longer xs d)

at_left : (xs : List ℕ) (d k : ℕ) → k < length xs → slice_index (xs ++ d ∷ []) k ≡ slice_index xs k
at_left [] d k l = absurd (omega (arith, l))
at_left (x ∷ xs) d zero l = refl
at_left (x ∷ xs) d (suc k) l = at_left xs d k (omega (arith, l))

at_end : (xs : List ℕ) (d k : ℕ) → k ≡ length xs → slice_index (xs ++ d ∷ []) k ≡ d
at_end [] d k e = rw e refl
at_end (x ∷ xs) d zero e = absurd (omega (arith, e))
at_end (x ∷ xs) d (suc k) e = at_end xs d k (omega (arith, e))

still_online : (all : List DriveLoad) (xs : List ℕ) (d : ℕ) → list_all (is_online all) xs ≡ true → is_online all d ≡ true →
    list_all (is_online all) (xs ++ d ∷ []) ≡ true
still_online all [] d a o = rw o refl
still_online all (x ∷ xs) d a o = split (is_online all x) _ _ a (still_online all xs d) o
  where
    split : (b c e : Bool) → (b && c) ≡ true → (c ≡ true → is_online all d ≡ true → e ≡ true) → is_online all d ≡ true →
        (b && e) ≡ true
    split true c e a f o = f a o
    split false c e a f o = absurd (cc a)

-- it is chosen
pub chosen_too : (chosen : List ℕ) (count i : ℕ) (all : List DriveLoad) (x : DriveLoad) → i < length all →
    x ≡ slice_index_or all i x →
    x.online ≡ true → length chosen < count → AreDifferent (drives_of all) → Taken chosen count i all →
    Taken (chosen ++ x.drive ∷ []) count (i + 1) all
chosen_too chosen count i all x l e o m d t =
    let long : length (chosen ++ x.drive ∷ []) ≡ length chosen + 1 = one_longer chosen x.drive in
    let c : count_by (λ l. l.online) (drop i all) ≡ 1 + count_by (λ l. l.online) (drop (i + 1) all) =
    rw o at (counted all i x l e) in record {
      few = omega (arith, long, m);
      enough = omega (arith, long, c, t.enough);
      online = still_online all chosen x.drive t.online (found all i x l e o);
      placed = λ k b. elim (before_or_at k (length chosen) (omega (arith, b, long))) [
        | inl q ↦ let p = t.placed k q in (p.0, omega (arith, p.1), at_left chosen x.drive k q ∙ p.2)
        | inr q ↦ (i, omega arith, at_end chosen x.drive k q ∙ sym (drive_at all i x l e))
      ];
      different = λ a b f g. elim (before_or_at b (length chosen) (omega (arith, g, long))) [
        | inl q ↦ (λ same. t.different a b f q
            (sym (at_left chosen x.drive a (omega (arith, f, q))) ∙ same ∙ at_left chosen x.drive b q))
        | inr q ↦
            let p = t.placed a (omega (arith, f, q)) in
            (λ same. d p.0 i p.1 (omega (arith, many_drives all, l))
            (sym p.2 ∙ sym (at_left chosen x.drive a (omega (arith, f, q))) ∙ same ∙ at_end chosen x.drive b q
            ∙ sym (drive_at all i x l e)))
      ];
    }
  where
    before_or_at : (k n : ℕ) → k < n + 1 → (k < n) ⊎ (k ≡ n)
    before_or_at k n l = grind (arith, l)

-- one more load is looked at
took_load : (old new : List ℕ) (count i : ℕ) (all : List DriveLoad) (x : DriveLoad) → i < length all →
    x ≡ slice_index_or all i x → AreDifferent (drives_of all) →
    new ≡ with_load count x old → Taken old count i all → Taken new count (i + 1) all
took_load old new count i all x l e d h t = rw h (elim (cases_Bool (x.online && nat_lt (length old) count)) [
  | inl y ↦ rw y (chosen_too old count i all x l e (and_left x.online _ y) (below (and_right x.online _ y)) d t)
  | inr n ↦ rw n (passed old count i all x l e (neither x.online n) t)
])
  where
    and_left : (a b : Bool) → (a && b) ≡ true → a ≡ true
    and_left true b p = refl
    and_left false b p = absurd (cc p)

    and_right : (a b : Bool) → (a && b) ≡ true → b ≡ true
    and_right true b p = p
    and_right false b p = absurd (cc p)

    below : nat_lt (length old) count ≡ true → length old < count
    below p = grind (arith, nat_tests, p)

    neither : (a : Bool) → (a && nat_lt (length old) count) ≡ false → (a ≡ false) ⊎ (count ≤ length old)
    neither false p = inl refl
    neither true p = inr (grind (arith, nat_tests, p))

in_range : (all : List DriveLoad) (i : ℕ) (d e : DriveLoad) → i < length all → slice_index_or all i d ≡ slice_index_or all i e
in_range [] i d e l = absurd (omega (arith, l))
in_range (y ∷ ys) zero d e l = refl
in_range (y ∷ ys) (suc i) d e l = in_range ys i d e (omega (arith, l))

pub took : (old new : List ℕ) (count i : ℕ) (all : List DriveLoad) (d : DriveLoad) → i < length all →
    AreDifferent (drives_of all) →
    new ≡ with_load count (slice_index_or all i d) old → Taken old count i all → Taken new count (i + 1) all
took old new count i all d l f h t =
    took_load old new count i all (slice_index_or all i d) l (in_range all i d (slice_index_or all i d) l) f h t
