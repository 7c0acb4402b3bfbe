-- Bytes that are left of intervals when stretches are cut out one after another.
use Rattle.std.proofs.Common.{◌≡◌, ℕ, ◌≤◌, List, [], ◌∷◌, ◌++◌, refl, sym, ap, ◌∙◌, arith, inl, inr, append-nil, eq-eqb, ne_eqb}
use Rattle.std.specs.Prelude.{flat_map}
use Rattle.std.proofs.lemmas.Bool.{cases_eq, cases_lt, lt-ltb, le-ltb}
use Rattle.std.proofs.lemmas.Grind.{flat_map-append}
use Rattle.stripe_plan.specs.declared.plan.Interval.{Interval}
use Rattle.stripe_plan.specs.declared.plan.Stretch.{Stretch}
use Rattle.stripe_plan.specs.Asks.{some_of, before, behind, cut, without}

-- of no bytes none is left
pub empty : (ts : List Stretch) (p : ℕ) (i : Interval) → i.end ≤ i.first → without ts p i ≡ []
unfolding without
empty [] p i le = rw (le-ltb i.first i.end le) refl
empty (t ∷ ts) p i le = elim (cases_eq t.position p) [
  | inl same ↦ rw (
    eq-eqb t.position p same,
    empty ts p (before t i) (omega (arith, le)),
    empty ts p (behind t i) (omega (arith, le)),
  ) refl
  | inr other ↦ rw (ne_eqb t.position p other) (empty ts p i le)
]

pub of_some : (ts : List Stretch) (p : ℕ) (i : Interval) → flat_map (without ts p) (some_of i) ≡ without ts p i
of_some ts p i = elim (cases_lt i.first i.end) [
  | inl lt ↦ rw (lt-ltb i.first i.end lt) (append-nil (without ts p i))
  | inr le ↦ rw (le-ltb i.first i.end le) (sym (empty ts p i le))
]

pub some_again : (i : Interval) → flat_map some_of (some_of i) ≡ some_of i
some_again i = elim (cases_lt i.first i.end) [
  | inl lt ↦ rw (lt-ltb i.first i.end lt, lt-ltb i.first i.end lt) refl
  | inr le ↦ rw (le-ltb i.first i.end le) refl
]

pub cut_again : (t : Stretch) (is : List Interval) → flat_map some_of (flat_map (cut t) is) ≡ flat_map (cut t) is
cut_again t [] = refl
cut_again t (i ∷ is) =
    flat_map-append some_of (cut t i) (flat_map (cut t) is)
    ∙ ap (λ xs. xs ++ flat_map some_of (flat_map (cut t) is))
    (flat_map-append some_of (some_of (before t i)) (some_of (behind t i))
    ∙ ap (λ xs. xs ++ flat_map some_of (some_of (behind t i))) (some_again (before t i))
    ∙ ap (λ xs. some_of (before t i) ++ xs) (some_again (behind t i)))
    ∙ ap (λ xs. cut t i ++ xs) (cut_again t is)

-- one stretch more
pub cut_out : (t : Stretch) (ts : List Stretch) (p : ℕ) (is : List Interval) → t.position ≡ p →
    flat_map (without ts p) (flat_map (cut t) is) ≡ flat_map (without (t ∷ ts) p) is
unfolding without
cut_out t ts p [] same = refl
cut_out t ts p (i ∷ is) same =
    flat_map-append (without ts p) (cut t i) (flat_map (cut t) is)
    ∙ ap (λ xs. xs ++ flat_map (without ts p) (flat_map (cut t) is))
    (flat_map-append (without ts p) (some_of (before t i)) (some_of (behind t i))
    ∙ ap (λ xs. xs ++ flat_map (without ts p) (some_of (behind t i))) (of_some ts p (before t i))
    ∙ ap (λ xs. without ts p (before t i) ++ xs) (of_some ts p (behind t i)))
    ∙ ap (λ xs. (without ts p (before t i) ++ without ts p (behind t i)) ++ xs) (cut_out t ts p is same)
    ∙ sym (rw (eq-eqb t.position p same) refl)

pub left_in : (t : Stretch) (ts : List Stretch) (p : ℕ) (is : List Interval) → (t.position ≡ p → ⊥) →
    flat_map (without ts p) is ≡ flat_map (without (t ∷ ts) p) is
unfolding without
left_in t ts p [] other = refl
left_in t ts p (i ∷ is) other =
    ap (λ xs. without ts p i ++ xs) (left_in t ts p is other) ∙ sym (rw (ne_eqb t.position p other) refl)

-- all that is left has bytes
pub all_left : (ts : List Stretch) (p : ℕ) (is : List Interval) → ts ≡ [] → flat_map (without ts p) is ≡ flat_map some_of is
unfolding without
all_left [] p [] e = refl
all_left [] p (i ∷ is) e = ap (λ xs. some_of i ++ xs) (all_left [] p is refl)
all_left (t ∷ ts) p is e = absurd (cc e)
