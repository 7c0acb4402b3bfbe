-- The online drives with the fewest objects are different online drives.
use Rattle.std.specs.Prelude.{ℕ, suc, zero, Bool, true, false, List, [], ◌∷◌, ◌≡◌, ◌<◌, ◌&&◌, ◌||◌, nat_eq, cond, map, take, length, count_by, slice_index, All, refl}
use Rattle.std.specs.List.{filter, IsDistinct, AllByRecursion}
use Rattle.std.specs.List.Sorted.{IsPermutation}
use Rattle.std.proofs.Common.{arith, sym, subst, ◌∙◌, get_or, inl, inr, eq-eqb}
use Rattle.std.proofs.lemmas.Bool.{ne_eqb, eqb-false, cases_eq}
use Rattle.std.proofs.lemmas.List.{length-map, get_or-map, length-take-le}
use Rattle.std.proofs.lemmas.List.Sums.{length-filter, list_all-from_AllPass}
use Rattle.std.proofs.lemmas.List.Elements.{All-from_recursion, recursion_from_All, All-filter, All-map, All-take, All-weaker}
use Rattle.std.proofs.lemmas.List.Sorted.{All-permutation, length_permutation}
use Rattle.std.proofs.lemmas.Map.Keys.{IsDistinct-IsPermutation, IsDistinct-from_apart, apart_from_distinct}
use Rattle.stripe_repair.specs.declared.loads.DriveLoad.{DriveLoad}
use Rattle.stripe_repair.specs.Placing.{AreDifferent, CanPlace, Places, drives_of, is_online}
use Rattle.osd_replay.specs.Placing.{online_pairs}

-- ---- lists whose members differ

distinct_kept : {X : Type 0} (e : X → X → Bool) (p : X → Bool) (xs : List X) → IsDistinct e xs → IsDistinct e (filter p xs)
unfolding IsDistinct
distinct_kept e p [] h = tt
distinct_kept {X} e p (x ∷ xs) h = kept (p x) (distinct_kept e p xs h.1)
  where
    kept : (b : Bool) → IsDistinct e (filter p xs) → IsDistinct e (cond b (x ∷ filter p xs) (filter p xs))
    kept true rest = (
      recursion_from_All (λ y. e x y ≡ false) (filter p xs)
          (All-filter p (λ y. e x y ≡ false) xs (All-from_recursion (λ y. e x y ≡ false) xs h.0)),
      rest,
    )
    kept false rest = rest

distinct_mapped : {X Y : Type 0} (e : Y → Y → Bool) (f : X → Y) (xs : List X) → IsDistinct (λ a b. e (f a) (f b)) xs →
    IsDistinct e (map f xs)
unfolding IsDistinct
distinct_mapped e f [] h = tt
distinct_mapped e f (x ∷ xs) h = (
  recursion_from_All (λ y. e (f x) y ≡ false) (map f xs)
      (All-map (λ y. e (f x) y ≡ false) f xs (All-from_recursion (λ y. e (f x) (f y) ≡ false) xs h.0)),
  distinct_mapped e f xs h.1,
)

distinct_first : {X : Type 0} (e : X → X → Bool) (n : ℕ) (xs : List X) → IsDistinct e xs → IsDistinct e (take n xs)
unfolding IsDistinct
distinct_first e zero xs h = tt
distinct_first e (suc n) [] h = tt
distinct_first e (suc n) (x ∷ xs) h = (
  recursion_from_All (λ y. e x y ≡ false) (take n xs)
      (All-take (λ y. e x y ≡ false) n xs (All-from_recursion (λ y. e x y ≡ false) xs h.0)),
  distinct_first e n xs h.1,
)

-- ---- numbers of drives

flips : (a b : ℕ) → nat_eq a b ≡ nat_eq b a
flips a b = elim (cases_eq a b) [
  | inl e ↦ rw e refl
  | inr ne ↦ ne_eqb a b ne ∙ sym (ne_eqb b a (λ same. ne (sym same)))
]

abbrev same_drive : DriveLoad → DriveLoad → Bool
same_drive a b = nat_eq a.drive b.drive

abbrev same_number : ℕ × ℕ → ℕ × ℕ → Bool
same_number a b = nat_eq a.1 b.1

abbrev pair_of : DriveLoad → ℕ × ℕ
pair_of l = (l.objects, l.drive)

different_loads : (loads : List DriveLoad) → AreDifferent (drives_of loads) → IsDistinct same_drive loads
different_loads loads h = IsDistinct-from_apart same_drive loads (λ i j d ij jl.
    let left : slice_index (drives_of loads) i ≡ (get_or loads i d).drive =
    get_or-map (λ (l : DriveLoad). l.drive) loads i d 0 (omega (arith, ij, jl)) in
    let right : slice_index (drives_of loads) j ≡ (get_or loads j d).drive =
    get_or-map (λ (l : DriveLoad). l.drive) loads j d 0 jl in
    ne_eqb (get_or loads i d).drive (get_or loads j d).drive
    (λ same. h i j ij (subst (λ n. j < n) (sym (length-map loads (λ (l : DriveLoad). l.drive))) jl)
    (left ∙ same ∙ sym right)))

-- numbers that differ one by one
are_different : (xs : List ℕ) → IsDistinct nat_eq xs → AreDifferent xs
are_different xs h i j ij jl same =
    eqb-false (slice_index xs i) (slice_index xs j) (apart_from_distinct nat_eq xs i j 0 h ij jl) same

-- the pairs of the online drives differ in their drives
different_pairs : (loads : List DriveLoad) → AreDifferent (drives_of loads) → IsDistinct same_number (online_pairs loads)
different_pairs loads h =
    distinct_mapped same_number pair_of (filter (λ (l : DriveLoad). l.online) loads)
    (distinct_kept same_drive (λ (l : DriveLoad). l.online) loads (different_loads loads h))

-- ---- online drives

abbrev OnlineIn : List DriveLoad → DriveLoad → Type 0
OnlineIn loads l = is_online loads l.drive ≡ true

later : (x : DriveLoad) (xs : List DriveLoad) (l : DriveLoad) → OnlineIn xs l → OnlineIn (x ∷ xs) l
later x xs l h = rw h (or_true (nat_eq x.drive l.drive && x.online))
  where
    or_true : (b : Bool) → (b || true) ≡ true
    or_true true = refl
    or_true false = refl

itself : (x : DriveLoad) (xs : List DriveLoad) → x.online ≡ true → OnlineIn (x ∷ xs) x
itself x xs on =
    let same : nat_eq x.drive x.drive ≡ true = eq-eqb x.drive x.drive refl in
    rw (same, on) refl

widened : (x : DriveLoad) (xs : List DriveLoad) → AllByRecursion (OnlineIn xs) (filter (λ (l : DriveLoad). l.online) xs) →
    AllByRecursion (OnlineIn (x ∷ xs)) (filter (λ (l : DriveLoad). l.online) xs)
widened x xs h = recursion_from_All (OnlineIn (x ∷ xs)) (filter (λ (l : DriveLoad). l.online) xs)
    (All-weaker (OnlineIn xs) (OnlineIn (x ∷ xs)) (later x xs) (filter (λ (l : DriveLoad). l.online) xs)
    (All-from_recursion (OnlineIn xs) (filter (λ (l : DriveLoad). l.online) xs) h))

all_online : (loads : List DriveLoad) → AllByRecursion (OnlineIn loads) (filter (λ (l : DriveLoad). l.online) loads)
all_online [] = tt
all_online (x ∷ xs) = kept x.online refl (widened x xs (all_online xs))
  where
    kept : (b : Bool) → x.online ≡ b → AllByRecursion (OnlineIn (x ∷ xs)) (filter (λ (l : DriveLoad). l.online) xs)
        → AllByRecursion (OnlineIn (x ∷ xs))
        (cond b (x ∷ filter (λ (l : DriveLoad). l.online) xs) (filter (λ (l : DriveLoad). l.online) xs))
    kept true on rest = (itself x xs on, rest)
    kept false on rest = rest

-- ---- the placement

pub first_places : (n : ℕ) (loads : List DriveLoad) (pairs : List (ℕ × ℕ)) → CanPlace n loads →
    IsPermutation (online_pairs loads) pairs → Places n loads (map (λ (pair : ℕ × ℕ). pair.1) (take n pairs))
first_places n loads pairs can same =
    let online : List DriveLoad = filter (λ (l : DriveLoad). l.online) loads in
    let IsOn : ℕ × ℕ → Type 0 = λ pair. is_online loads pair.1 ≡ true in
    let long : length pairs ≡ count_by (λ (l : DriveLoad). l.online) loads =
    length_permutation (online_pairs loads) pairs same ∙ length-map online pair_of
    ∙ length-filter (λ (l : DriveLoad). l.online) loads in
    let on : All IsOn (online_pairs loads) =
    All-map IsOn pair_of online (All-from_recursion (OnlineIn loads) online (all_online loads)) in
    let first_on : All IsOn (take n pairs) = All-take IsOn n pairs (All-permutation IsOn (online_pairs loads) pairs same on) in
    let apart : IsDistinct same_number pairs =
    IsDistinct-IsPermutation same_number (λ x y. flips x.1 y.1) (online_pairs loads) pairs same
    (different_pairs loads can.different) in
    record {
      many = length-map (take n pairs) (λ (pair : ℕ × ℕ). pair.1) ∙ length-take-le n pairs (omega (arith, long, can.enough));
      online = list_all-from_AllPass (is_online loads) (map (λ (pair : ℕ × ℕ). pair.1) (take n pairs))
          (All-map (λ d. is_online loads d ≡ true) (λ (pair : ℕ × ℕ). pair.1) (take n pairs) first_on);
      different = are_different (map (λ (pair : ℕ × ℕ). pair.1) (take n pairs))
          (distinct_mapped nat_eq (λ (pair : ℕ × ℕ). pair.1) (take n pairs) (distinct_first same_number n pairs apart));
    }
