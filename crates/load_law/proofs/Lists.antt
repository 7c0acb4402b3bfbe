-- Lists without repetition, and lists that are made piece by piece.
use Rattle.std.proofs.Common.{◌≡◌, ◌⊎◌, ◌≤◌, ◌<◌, ℕ, zero, suc, ◌+◌, ◌*◌, Bool, true, false, if◌then◌else◌, List, [], ◌∷◌, ◌++◌, length, refl, sym, subst, ap, ◌∙◌, inl, inr, arith}
use Rattle.std.specs.List.{flat_map, range_with_len}
use Rattle.std.proofs.lemmas.Bool.{cases_eq}
use Rattle.std.proofs.lemmas.List.{length-append}
use Rattle.std.proofs.lemmas.List.Concat.{flat_map-cons}
use Rattle.server_rules.specs.Laws.{In}
use Rattle.server_rules.proofs.Members.{in_front, in_behind, in_either}

-- ---- without repetition

-- no two members are equal
abbrev pub AreDistinct : {A : Type 0} → List A → Type 0
AreDistinct [] = Unit {0}
AreDistinct (x ∷ xs) = (In x xs → ⊥) × AreDistinct xs

-- a list with one member taken out
record Without {A : Type 0} (x : A) (ys : List A) : Type 0 where
  rest : List A
  one_less : length ys ≡ suc (length rest)
  others : (z : A) → In z ys → (z ≡ x) ⊎ In z rest

taken_out : {A : Type 0} (x : A) (ys : List A) → In x ys → Without x ys
taken_out x [] i = absurd i
taken_out x (y ∷ ys) (inl e) = record {
  rest = ys;
  one_less = refl;
  others = λ z j. elim j [ inl s ↦ inl (s ∙ sym e) | inr k ↦ inr k ];
}
taken_out x (y ∷ ys) (inr i) =
    let w = taken_out x ys i in
    record {
      rest = y ∷ w.rest;
      one_less = ap suc w.one_less;
      others = λ z j. elim j [
        | inl s ↦ inr (inl s)
        | inr k ↦ elim (w.others z k) [ inl t ↦ inl t | inr l ↦ inr (inr l) ]
      ];
    }

-- such a list isn't longer than one that has all its members
pub no_longer : {A : Type 0} (xs ys : List A) → AreDistinct xs → ((x : A) → In x xs → In x ys) → length xs ≤ length ys
no_longer [] ys d f = omega arith
no_longer (x ∷ xs) ys d f =
    let w = taken_out x ys (f x (inl refl)) in
    let rest : length xs ≤ length w.rest =
    no_longer xs w.rest d.1 (λ z i. elim (w.others z (f z (inr i))) [
      | inl e ↦ absurd (d.0 (subst (λ y. In y xs) e i))
      | inr j ↦ j
    ]) in
    omega (arith, rest, w.one_less)

pub distinct_more : {A : Type 0} (xs ys : List A) → AreDistinct xs → AreDistinct ys → ((x : A) → In x xs → In x ys → ⊥)
    → AreDistinct (xs ++ ys)
distinct_more [] ys d e apart = e
distinct_more (x ∷ xs) ys d e apart = (
  λ i. elim (in_either x xs ys i) [ inl a ↦ d.0 a | inr b ↦ apart x (inl refl) b ],
  distinct_more xs ys d.1 e (λ z i j. apart z (inr i) j),
)

-- ---- numbers one after another

pub in_range : (a n k : ℕ) → a ≤ k → k < a + n → In k (range_with_len a n)
in_range a zero k l u = absurd (omega (arith, l, u))
in_range a (suc n) k l u = elim (cases_eq k a) [
  | inl same ↦ inl same
  | inr other ↦ inr (in_range (a + 1) n k (omega (arith, l, other)) (omega (arith, u)))
]

above_range : (a n k : ℕ) → In k (range_with_len a n) → a ≤ k
above_range a zero k i = absurd i
above_range a (suc n) k (inl e) = omega (arith, e)
above_range a (suc n) k (inr i) = omega (arith, above_range (a + 1) n k i)

pub range_distinct : (a n : ℕ) → AreDistinct (range_with_len a n)
range_distinct a zero = tt
range_distinct a (suc n) = (λ i. omega (arith, above_range (a + 1) n a i), range_distinct (a + 1) n)

-- ---- one of two

pub by_test : {A : Type 0} (P : A → Type 0) (b : Bool) (x y : A) → P x → P y → P (if b then x else y)
by_test P true x y u v = u
by_test P false x y u v = v

-- ---- piece by piece

pub in_flat : {A B : Type 0} (f : A → List B) (x : A) (xs : List A) (y : B) → In x xs → In y (f x) → In y (flat_map f xs)
in_flat f x [] y i j = absurd i
in_flat f x (z ∷ xs) y (inl e) j = rw (flat_map-cons f z xs) (in_front y (f z) (flat_map f xs) (subst (λ w. In y (f w)) e j))
in_flat f x (z ∷ xs) y (inr i) j = rw (flat_map-cons f z xs) (in_behind y (f z) (flat_map f xs) (in_flat f x xs y i j))

-- pieces of at most so many members
pub flat_most : {A B : Type 0} (f : A → List B) (n : ℕ) (xs : List A) → ((x : A) → length (f x) ≤ n)
    → length (flat_map f xs) ≤ n * length xs
flat_most f n [] few = omega arith
flat_most f n (x ∷ xs) few =
    rw (flat_map-cons f x xs)
    (omega (arith, length-append (f x) (flat_map f xs), few x, flat_most f n xs few, more n (length xs)))
  where
    more : (n l : ℕ) → n * suc l ≡ n + n * l
    more n l = omega arith
