-- Members of lists.
use Rattle.std.proofs.Common.{◌≡◌, ℕ, ◌∷◌, [], List, Bool, true, refl, sym, ap, subst, ◌∙◌, inl, inr, eq-eqb, ne_eqb}
use Rattle.std.specs.List.{list_any}
use Rattle.std.proofs.lemmas.Bool.{cases_Bool, cases_eq, or_cases}
use Rattle.server_rules.specs.Numbers.{among}
use Rattle.component_law.specs.Words.{In, Each}

pub found : {A : Type 0} (p : A → Bool) (xs : List A) → list_any p xs ≡ true → (x : A) × In x xs × (p x ≡ true)
found p [] e = absurd (cc e)
found p (x ∷ xs) e = elim (or_cases (p x) (list_any p xs) e) [
  | inl a ↦ (x, inl refl, a)
  | inr b ↦ let f : _ = found p xs b in (f.0, inr f.1, f.2)
]

pub here : {A : Type 0} (p : A → Bool) (xs : List A) (x : A) → In x xs → p x ≡ true → list_any p xs ≡ true
here p [] x i e = absurd i
here p (y ∷ ys) x (inl s) e = rw (ap p (sym s) ∙ e) refl
here p (y ∷ ys) x (inr i) e = elim (cases_Bool (p y)) [ inl t ↦ rw t refl | inr f ↦ rw f (here p ys x i e) ]

pub of_each : {A : Type 0} (P : A → Type 0) (xs : List A) (x : A) → Each P xs → In x xs → P x
of_each P [] x h i = absurd i
of_each P (y ∷ ys) x h (inl s) = subst P (sym s) h.0
of_each P (y ∷ ys) x h (inr i) = of_each P ys x h.1 i

pub among_in : (n : ℕ) (ns : List ℕ) → among n ns ≡ true → In n ns
unfolding among
among_in n [] e = absurd (cc e)
among_in n (m ∷ ns) e = elim (cases_eq n m) [
  | inl s ↦ inl s
  | inr o ↦ inr (among_in n ns (rw (ne_eqb n m o) at e))
]

pub in_among : (n : ℕ) (ns : List ℕ) → In n ns → among n ns ≡ true
unfolding among
in_among n [] i = absurd i
in_among n (m ∷ ns) (inl s) = rw (eq-eqb n m s) refl
in_among n (m ∷ ns) (inr i) = elim (cases_eq n m) [
  | inl s ↦ rw (eq-eqb n m s) refl
  | inr o ↦ rw (ne_eqb n m o) (in_among n ns i)
]
