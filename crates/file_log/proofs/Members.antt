-- What is among a list of numbers that was mapped, filtered or raised.
use Rattle.std.proofs.Common.{◌≡◌, ◌↔◌, ◌⊎◌, ℕ, zero, suc, ◌<◌, Bool, true, false, List, [], ◌∷◌, ◌++◌, cond, max, map, refl, sym, subst, arith, inl, inr}
use Rattle.std.specs.Prelude.{Contains}
use Rattle.std.specs.List.{filter}
use Rattle.std.proofs.lemmas.Bool.{cases_lt}
use Rattle.std.proofs.lemmas.List.Elements.{Contains-append_left, Contains-append_right, Contains-append_cases, Contains-push, Contains-push_cases}

at_front : (a : ℕ) (xs : List ℕ) → Contains (a ∷ xs) a
at_front a xs = (0, omega arith, refl)

behind : (a : ℕ) (xs : List ℕ) (n : ℕ) → Contains xs n → Contains (a ∷ xs) n
behind a xs n (k, low, e) = (suc k, omega (arith, low), e)

front_or_behind : (a : ℕ) (xs : List ℕ) (n : ℕ) → Contains (a ∷ xs) n → (a ≡ n) ⊎ Contains xs n
front_or_behind a xs n (zero, low, e) = inl e
front_or_behind a xs n (suc k, low, e) = inr (k, omega (arith, low), e)

pub mapped : (f : ℕ → ℕ) (xs : List ℕ) (n : ℕ) → Contains xs n → Contains (map f xs) (f n)
mapped f [] n (k, low, e) = absurd (omega (arith, low))
mapped f (x ∷ xs) n h = elim (front_or_behind x xs n h) [
  | inl here ↦ subst (λ m. Contains (map f (x ∷ xs)) (f m)) here (at_front (f x) (map f xs))
  | inr later ↦ behind (f x) (map f xs) (f n) (mapped f xs n later)
]

pub from_mapped : (f : ℕ → ℕ) (xs : List ℕ) (n : ℕ) → Contains (map f xs) n → (x : ℕ) × Contains xs x × (f x ≡ n)
from_mapped f [] n (k, low, e) = absurd (omega (arith, low))
from_mapped f (x ∷ xs) n h = elim (front_or_behind (f x) (map f xs) n h) [
  | inl here ↦ (x, at_front x xs, here)
  | inr later ↦ let r = from_mapped f xs n later in (r.0, behind x xs r.0 r.1, r.2)
]

picked : (b : Bool) (x : ℕ) (rest : List ℕ) → b ≡ true → Contains (cond b (x ∷ rest) rest) x
picked true x rest is = at_front x rest
picked false x rest is = absurd (cc is)

passed : (b : Bool) (x : ℕ) (rest : List ℕ) (n : ℕ) → Contains rest n → Contains (cond b (x ∷ rest) rest) n
passed true x rest n h = behind x rest n h
passed false x rest n h = h

picked_or_passed : (b : Bool) (x : ℕ) (rest : List ℕ) (n : ℕ) → Contains (cond b (x ∷ rest) rest) n →
    ((b ≡ true) × (x ≡ n)) ⊎ Contains rest n
picked_or_passed true x rest n h = elim (front_or_behind x rest n h) [ inl here ↦ inl (refl, here) | inr later ↦ inr later ]
picked_or_passed false x rest n h = inr h

pub kept : (p : ℕ → Bool) (xs : List ℕ) (n : ℕ) → p n ≡ true → Contains xs n → Contains (filter p xs) n
kept p [] n is h = h
kept p (x ∷ xs) n is h = elim (front_or_behind x xs n h) [
  | inl here ↦ subst (λ m. Contains (filter p (x ∷ xs)) m) here
      (picked (p x) x (filter p xs) (subst (λ m. p m ≡ true) (sym here) is))
  | inr later ↦ passed (p x) x (filter p xs) n (kept p xs n is later)
]

pub from_kept : (p : ℕ → Bool) (xs : List ℕ) (n : ℕ) → Contains (filter p xs) n → (p n ≡ true) × Contains xs n
from_kept p [] n (k, low, e) = absurd (omega (arith, low))
from_kept p (x ∷ xs) n h = elim (picked_or_passed (p x) x (filter p xs) n h) [
  | inl here ↦ (subst (λ m. p m ≡ true) here.1 here.0, subst (λ m. Contains (x ∷ xs) m) here.1 (at_front x xs))
  | inr later ↦ let r = from_kept p xs n later in (r.0, behind x xs n r.1)
]

-- sizes raised to an end: those at the end or above were there, the others are the end
end_or_old : (sizes : List ℕ) (top n : ℕ) → Contains (sizes ++ map (max top) sizes) n →
    Contains sizes n ⊎ ((n ≡ top) × ((s : ℕ) × Contains sizes s × (s < top)))
end_or_old sizes top n h = elim (Contains-append_cases sizes (map (max top) sizes) n h) [
  | inl old ↦ inl old
  | inr new ↦
      let r = from_mapped (max top) sizes n new in
      elim (cases_lt r.0 top) [
        | inl below ↦ inr (omega (arith, below, r.2), (r.0, r.1, below))
        | inr from ↦ let same : r.0 ≡ n = omega (arith, from, r.2) in inl (subst (λ m. Contains sizes m) same r.1)
      ]
]

pub raised_with : (sizes : List ℕ) (top n : ℕ) → ((s : ℕ) × Contains sizes s × (s < top)) →
    Contains (sizes ++ top ∷ []) n ↔ Contains (sizes ++ map (max top) sizes) n
raised_with sizes top n (s, inside, below) = (
  λ h. elim (Contains-push_cases sizes top n h) [
    | inl old ↦ Contains-append_left sizes (map (max top) sizes) n old
    | inr new ↦ let is : max top s ≡ n = omega (arith, below, new) in
        Contains-append_right sizes (map (max top) sizes) n
        (subst (λ m. Contains (map (max top) sizes) m) is (mapped (max top) sizes s inside))
  ],
  λ h. elim (end_or_old sizes top n h) [
    | inl old ↦ Contains-append_left sizes (top ∷ []) n old
    | inr new ↦ subst (λ m. Contains (sizes ++ top ∷ []) m) (sym new.0) (Contains-push sizes top)
  ],
)

pub raised_among : (sizes : List ℕ) (top n : ℕ) → Contains sizes top →
    Contains sizes n ↔ Contains (sizes ++ map (max top) sizes) n
raised_among sizes top n there = (
  λ h. Contains-append_left sizes (map (max top) sizes) n h,
  λ h. elim (end_or_old sizes top n h) [ inl old ↦ old | inr new ↦ subst (λ m. Contains sizes m) (sym new.0) there ],
)

pub raised_none : (sizes : List ℕ) (top n : ℕ) → ((s : ℕ) × Contains sizes s × (s < top) → ⊥) →
    Contains sizes n ↔ Contains (sizes ++ map (max top) sizes) n
raised_none sizes top n none = (
  λ h. Contains-append_left sizes (map (max top) sizes) n h,
  λ h. elim (end_or_old sizes top n h) [ inl old ↦ old | inr new ↦ absurd (none new.1) ],
)
