-- Lists and tables by number.
use Rattle.std.proofs.Common.{◌≡◌, ◌⊎◌, ℕ, zero, suc, ◌<◌, ◌≤◌, ◌++◌, ◌∷◌, [], List, Bool, Option, Some, None, cond, length, map, slice_get, slice_set, refl, sym, ap, subst, ◌∙◌, arith, inl, inr, eq-eqb, ne_eqb}
use Rattle.std.specs.Option.{option_map}
use Rattle.std.specs.Ordering.{nat_cmp}
use Rattle.std.specs.BTreeMap.{is_at, insert_entry}
use Rattle.std.specs.Map.{lookup, set_value, remove_entry}
use Rattle.std.proofs.lemmas.Bool.{cases_Bool, cases_lt, cases_eq, lt-ltb, le-ltb}
use Rattle.osd_objects.proofs.Entries.{is_at_equal, is_at_other}
use Rattle.component_law.specs.Words.{Each, IsSorted}

-- ---- each of a list

pub each_more : {A : Type 0} (P Q : A → Type 0) → ((x : A) → P x → Q x) → (xs : List A) → Each P xs → Each Q xs
each_more P Q f [] h = tt
each_more P Q f (x ∷ xs) h = (f x h.0, each_more P Q f xs h.1)

pub each_end : {A : Type 0} (P : A → Type 0) (xs : List A) (y : A) → Each P xs → P y → Each P (xs ++ y ∷ [])
each_end P [] y h p = (p, tt)
each_end P (x ∷ xs) y h p = (h.0, each_end P xs y h.1 p)

-- ---- a list by its members

pub same_lists : {A : Type 0} (xs ys : List A) → ((i : ℕ) → slice_get xs i ≡ slice_get ys i) → xs ≡ ys
same_lists [] [] h = refl
same_lists [] (y ∷ ys) h = let e : None ≡ Some y = h 0 in absurd (cc e)
same_lists (x ∷ xs) [] h = let e : Some x ≡ None = h 0 in absurd (cc e)
same_lists {A} (x ∷ xs) (y ∷ ys) h =
    let e : Some x ≡ Some y = h 0 in
    let head : x ≡ y = cc e in
    ap (λ (z : A). z ∷ xs) head ∙ ap (λ (zs : List A). y ∷ zs) (same_lists xs ys (λ i. h (suc i)))

pub get_before : {A : Type 0} (xs : List A) (y z : A) (i : ℕ) → slice_get xs i ≡ Some z
    → slice_get (xs ++ y ∷ []) i ≡ Some z
get_before [] y z i e = absurd (cc e)
get_before (x ∷ xs) y z zero e = e
get_before (x ∷ xs) y z (suc i) e = get_before xs y z i e

-- a member behind a list and one more is of the list, or that one
pub get_either : {A : Type 0} (xs : List A) (y z : A) (i : ℕ) → slice_get (xs ++ y ∷ []) i ≡ Some z
    → (slice_get xs i ≡ Some z) ⊎ ((i ≡ length xs) × (y ≡ z))
get_either [] y z zero e = let s : y ≡ z = cc e in inr (refl, s)
get_either [] y z (suc i) e = absurd (cc e)
get_either (x ∷ xs) y z zero e = inl e
get_either {A} (x ∷ xs) y z (suc i) e = elim (get_either xs y z i e) [
  | inl a ↦ inl a
  | inr b ↦ inr (ap (λ (n : ℕ). suc n) b.0, b.1)
]

pub map_set_same : {A B : Type 0} (f : A → B) (xs : List A) (n : ℕ) (x y : A) → slice_get xs n ≡ Some x → f y ≡ f x
    → map f (slice_set xs n y) ≡ map f xs
map_set_same f [] n x y e q = refl
map_set_same {A} {B} f (z ∷ xs) zero x y e q =
    let s : z ≡ x = cc e in
    ap (λ (b : B). b ∷ map f xs) (q ∙ sym (ap f s))
map_set_same {A} {B} f (z ∷ xs) (suc n) x y e q = ap (λ (bs : List B). f z ∷ bs) (map_set_same f xs n x y e q)

pub map_set : {A B : Type 0} (f : A → B) (xs : List A) (n : ℕ) (y : A)
    → map f (slice_set xs n y) ≡ slice_set (map f xs) n (f y)
map_set f [] n y = refl
map_set f (z ∷ xs) zero y = refl
map_set {A} {B} f (z ∷ xs) (suc n) y = ap (λ (bs : List B). f z ∷ bs) (map_set f xs n y)

pub map_end : {A B : Type 0} (f : A → B) (xs : List A) (y : A) → map f (xs ++ y ∷ []) ≡ map f xs ++ f y ∷ []
map_end f [] y = refl
map_end {A} {B} f (x ∷ xs) y = ap (λ (bs : List B). f x ∷ bs) (map_end f xs y)

pub map_length : {A B : Type 0} (f : A → B) (xs : List A) → length (map f xs) ≡ length xs
map_length f [] = refl
map_length f (x ∷ xs) = ap (λ (n : ℕ). suc n) (map_length f xs)

pub get_map : {A B : Type 0} (f : A → B) (xs : List A) (i : ℕ) → slice_get (map f xs) i ≡ option_map f (slice_get xs i)
get_map f [] i = refl
get_map f (x ∷ xs) zero = refl
get_map f (x ∷ xs) (suc i) = get_map f xs i

-- ---- a table whose values are seen

pub insert_seen : {X Y : Type 0} (v : X → Y) (es : List (ℕ × X)) (k : ℕ) (x : X)
    → insert_entry nat_cmp (map (λ (e : ℕ × X). (e.0, v e.1)) es) k (v x)
    ≡ map (λ (e : ℕ × X). (e.0, v e.1)) (insert_entry nat_cmp es k x)
insert_seen v [] k x = refl
insert_seen {X} {Y} v (e ∷ es) k x = elim (cases_lt k e.0) [
  | inl less ↦ rw (lt-ltb k e.0 less) refl
  | inr from ↦ elim (cases_eq k e.0) [
    | inl same ↦ rw (le-ltb k e.0 from, eq-eqb k e.0 same) refl
    | inr other ↦ rw (le-ltb k e.0 from, ne_eqb k e.0 other)
        (ap (λ (z : List (ℕ × Y)). (e.0, v e.1) ∷ z) (insert_seen v es k x))
  ]
]

pub remove_seen : {X Y : Type 0} (v : X → Y) (test : ℕ → Bool) (es : List (ℕ × X))
    → remove_entry test (map (λ (e : ℕ × X). (e.0, v e.1)) es)
    ≡ map (λ (e : ℕ × X). (e.0, v e.1)) (remove_entry test es)
remove_seen v test [] = refl
remove_seen {X} {Y} v test (e ∷ es) = elim (cases_Bool (test e.0)) [
  | inl t ↦ rw t refl
  | inr f ↦ rw f (ap (λ (z : List (ℕ × Y)). (e.0, v e.1) ∷ z) (remove_seen v test es))
]

-- ---- each of a table

pub each_inserted : {X : Type 0} (P : ℕ × X → Type 0) (es : List (ℕ × X)) (k : ℕ) (x : X) → Each P es
    → ((j : ℕ) → k ≡ j → P (j, x)) → Each P (insert_entry nat_cmp es k x)
each_inserted P [] k x h p = (p k refl, tt)
each_inserted P (e ∷ es) k x h p = elim (cases_lt k e.0) [
  | inl less ↦ rw (lt-ltb k e.0 less) (p k refl, h)
  | inr from ↦ elim (cases_eq k e.0) [
    | inl same ↦ rw (le-ltb k e.0 from, eq-eqb k e.0 same) (p e.0 same, h.1)
    | inr other ↦ rw (le-ltb k e.0 from, ne_eqb k e.0 other) (h.0, each_inserted P es k x h.1 p)
  ]
]

pub each_removed : {X : Type 0} (P : ℕ × X → Type 0) (test : ℕ → Bool) (es : List (ℕ × X)) → Each P es
    → Each P (remove_entry test es)
each_removed P test [] h = tt
each_removed P test (e ∷ es) h = elim (cases_Bool (test e.0)) [
  | inl t ↦ rw t h.1
  | inr f ↦ rw f (h.0, each_removed P test es h.1)
]

pub each_found : {X : Type 0} (P : ℕ × X → Type 0) (es : List (ℕ × X)) (k : ℕ) (x : X) → Each P es
    → lookup (is_at (nat_cmp k)) es ≡ Some x → (j : ℕ) × (k ≡ j) × P (j, x)
each_found P [] k x h q = absurd (cc q)
each_found P (e ∷ es) k x h q = elim (cases_eq k e.0) [
  | inl same ↦
      let s : e.1 ≡ x = cc (rw (is_at_equal k e.0 same) at q) in
      (e.0, same, subst (λ y. P (e.0, y)) s h.0)
  | inr other ↦ each_found P es k x h.1 (rw (is_at_other k e.0 other) at q)
]

-- another value in the place of one
pub each_set : {X : Type 0} (P : ℕ × X → Type 0) (es : List (ℕ × X)) (k : ℕ) (x : X) → Each P es
    → ((j : ℕ) → k ≡ j → P (j, x)) → Each P (set_value (is_at (nat_cmp k)) es x)
each_set P [] k x h p = tt
each_set P (e ∷ es) k x h p = elim (cases_eq k e.0) [
  | inl same ↦ rw (is_at_equal k e.0 same) (p e.0 same, h.1)
  | inr other ↦ rw (is_at_other k e.0 other) (h.0, each_set P es k x h.1 p)
]

-- what is taken out under one number leaves the others
pub removed_beside : {X : Type 0} (es : List (ℕ × X)) (k q : ℕ) → (q ≡ k → ⊥)
    → lookup (is_at (nat_cmp q)) (remove_entry (is_at (nat_cmp k)) es) ≡ lookup (is_at (nat_cmp q)) es
removed_beside [] k q other = refl
removed_beside {X} (e ∷ es) k q other = elim (cases_eq k e.0) [
  | inl same ↦ rw (is_at_equal k e.0 same) (rw (is_at_other q e.0 (λ x. other (x ∙ sym same))) refl)
  | inr apart ↦ rw (is_at_other k e.0 apart)
      (ap (λ (x : Option X). cond (is_at (nat_cmp q) e.0) (Some e.1) x) (removed_beside es k q other))
]

-- ---- tables by rising numbers

pub sorted_inserted : {X : Type 0} (es : List (ℕ × X)) (k : ℕ) (v : X) → IsSorted es → IsSorted (insert_entry nat_cmp es k v)
sorted_inserted [] k v h = (tt, tt)
sorted_inserted {X} (e ∷ es) k v h = elim (cases_lt k e.0) [
  | inl less ↦ rw (lt-ltb k e.0 less)
      ((less, each_more (λ (x : ℕ × X). e.0 < x.0) (λ (x : ℕ × X). k < x.0) (λ x l. omega (arith, l, less)) es h.0), h)
  | inr from ↦ elim (cases_eq k e.0) [
    | inl same ↦ rw (le-ltb k e.0 from, eq-eqb k e.0 same) h
    | inr other ↦ rw (le-ltb k e.0 from, ne_eqb k e.0 other) (
      each_inserted (λ (x : ℕ × X). e.0 < x.0) es k v h.0 (λ j i. omega (arith, i, from, other_than k e.0 other from)),
      sorted_inserted es k v h.1,
    )
  ]
]
  where
    other_than : (a b : ℕ) → (a ≡ b → ⊥) → b ≤ a → b < a
    other_than a b o l = elim (cases_lt b a) [ inl x ↦ x | inr y ↦ absurd (o (omega (arith, l, y))) ]

pub sorted_set : {X : Type 0} (es : List (ℕ × X)) (k : ℕ) (v : X) → IsSorted es
    → IsSorted (set_value (is_at (nat_cmp k)) es v)
sorted_set [] k v h = tt
sorted_set {X} (e ∷ es) k v h = elim (cases_eq k e.0) [
  | inl same ↦ rw (is_at_equal k e.0 same) h
  | inr other ↦ rw (is_at_other k e.0 other) (still es h.0, sorted_set es k v h.1)
]
  where
    still : (fs : List (ℕ × X)) → Each (λ (x : ℕ × X). e.0 < x.0) fs
        → Each (λ (x : ℕ × X). e.0 < x.0) (set_value (is_at (nat_cmp k)) fs v)
    still [] g = tt
    still (f ∷ fs) g = elim (cases_eq k f.0) [
      | inl same ↦ rw (is_at_equal k f.0 same) g
      | inr other ↦ rw (is_at_other k f.0 other) (g.0, still fs g.1)
    ]
