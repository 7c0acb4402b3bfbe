-- Members of lists: of two that are joined, of what is made of each or passes a test, and what holds of each of them.
use Rattle.std.proofs.Common.{◌≡◌, ◌⊎◌, Bool, true, false, List, [], ◌∷◌, ◌++◌, map, filter, refl, sym, subst, inl, inr, if◌then◌else◌}
use Rattle.std.specs.List.{AllByRecursion}
use Rattle.server_rules.specs.Laws.{In}

pub in_front : {A : Type 0} (x : A) (xs ys : List A) → In x xs → In x (xs ++ ys)
in_front x [] ys i = absurd i
in_front x (y ∷ xs) ys (inl e) = inl e
in_front x (y ∷ xs) ys (inr i) = inr (in_front x xs ys i)

pub in_behind : {A : Type 0} (x : A) (xs ys : List A) → In x ys → In x (xs ++ ys)
in_behind x [] ys i = i
in_behind x (y ∷ xs) ys i = inr (in_behind x xs ys i)

pub in_either : {A : Type 0} (x : A) (xs ys : List A) → In x (xs ++ ys) → In x xs ⊎ In x ys
in_either x [] ys i = inr i
in_either x (y ∷ xs) ys (inl e) = inl (inl e)
in_either x (y ∷ xs) ys (inr i) = elim (in_either x xs ys i) [ inl a ↦ inl (inr a) | inr b ↦ inr b ]

pub in_mapped : {A B : Type 0} (f : A → B) (y : B) (xs : List A) → In y (map f xs) → (x : A) × In x xs × (y ≡ f x)
in_mapped f y [] i = absurd i
in_mapped f y (x ∷ xs) (inl e) = (x, inl refl, e)
in_mapped f y (x ∷ xs) (inr i) = let r = in_mapped f y xs i in (r.0, inr r.1, r.2)

pub in_map : {A B : Type 0} (f : A → B) (x : A) (xs : List A) → In x xs → In (f x) (map f xs)
in_map f x [] i = absurd i
in_map f x (y ∷ xs) (inl e) = inl (subst (λ z. f x ≡ f z) e refl)
in_map f x (y ∷ xs) (inr i) = inr (in_map f x xs i)

in_kept : {A : Type 0} (b : Bool) (x y : A) (ys : List A) → In x (if b then y ∷ ys else ys) → ((x ≡ y)
    × (b ≡ true)) ⊎ In x ys
in_kept true x y ys (inl e) = inl (e, refl)
in_kept true x y ys (inr i) = inr i
in_kept false x y ys i = inr i

-- what passes a test was there, and passes it
pub in_filtered : {A : Type 0} (p : A → Bool) (x : A) (xs : List A) → In x (filter p xs) → In x xs × (p x ≡ true)
in_filtered p x [] i = absurd i
in_filtered p x (y ∷ xs) i = elim (in_kept (p y) x y (filter p xs) i) [
  | inl e ↦ (inl e.0, subst (λ z. p z ≡ true) (sym e.0) e.1)
  | inr j ↦ let r = in_filtered p x xs j in (inr r.0, r.1)
]

kept_in : {A : Type 0} (b : Bool) (x y : A) (ys : List A) → (x ≡ y) × (b ≡ true) ⊎ In x ys
    → In x (if b then y ∷ ys else ys)
kept_in true x y ys (inl e) = inl e.0
kept_in true x y ys (inr i) = inr i
kept_in false x y ys (inl e) = absurd (cc e.1)
kept_in false x y ys (inr i) = i

pub in_filter : {A : Type 0} (p : A → Bool) (x : A) (xs : List A) → In x xs → p x ≡ true → In x (filter p xs)
in_filter p x [] i e = absurd i
in_filter p x (y ∷ xs) (inl same) e = kept_in (p y) x y (filter p xs) (inl (same, subst (λ z. p z ≡ true) same e))
in_filter p x (y ∷ xs) (inr i) e = kept_in (p y) x y (filter p xs) (inr (in_filter p x xs i e))

-- ---- what holds of each

pub one_in : {A : Type 0} (P : A → Type 0) (xs : List A) (x : A) → AllByRecursion P xs → In x xs → P x
one_in P [] x k i = absurd i
one_in P (y ∷ xs) x k (inl e) = subst P (sym e) k.0
one_in P (y ∷ xs) x k (inr i) = one_in P xs x k.1 i
