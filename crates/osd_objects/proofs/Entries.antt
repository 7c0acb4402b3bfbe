-- What a look-up finds among a map's entries after one was put in, changed or taken out.
use Rattle.std.proofs.Common.{◌≡◌, ℕ, true, false, cond, is_some, List, [], ◌∷◌, Option, Some, None, IsSome, refl, sym, ap, ◌∙◌, arith, inl, inr}
use Rattle.std.specs.Ordering.{nat_cmp}
use Rattle.std.specs.BTreeMap.{is_at, insert_entry}
use Rattle.std.specs.Map.{lookup, set_value, remove_entry}
use Rattle.std.proofs.lemmas.Bool.{cases_lt, cases_eq, eq-eqb, ne_eqb, lt-ltb, le-ltb}
use Rattle.osd_lists.proofs.Tests.{is_at_same}

pub is_at_equal : (k j : ℕ) → k ≡ j → is_at (nat_cmp k) j ≡ true
is_at_equal k j same = ap (is_at (nat_cmp k)) (sym same) ∙ is_at_same k

pub is_at_other : (k j : ℕ) → (k ≡ j → ⊥) → is_at (nat_cmp k) j ≡ false
is_at_other k j other = elim (cases_lt k j) [ inl l ↦ rw (lt-ltb k j l) refl | inr g ↦ rw (le-ltb k j g, ne_eqb k j other) refl ]

pub lookup_inserted : {X : Type 0} (es : List (ℕ × X)) (k : ℕ) (v : X) →
    lookup (is_at (nat_cmp k)) (insert_entry nat_cmp es k v) ≡ Some v
lookup_inserted [] k v = rw (is_at_same k) refl
lookup_inserted (e ∷ es) k v = elim (cases_lt k e.0) [
  | inl less ↦ rw (lt-ltb k e.0 less, is_at_same k) refl
  | inr from ↦ elim (cases_eq k e.0) [
    | inl same ↦ rw (le-ltb k e.0 from, eq-eqb k e.0 same) (rw (is_at_equal k e.0 same) refl)
    | inr other ↦ rw (le-ltb k e.0 from, ne_eqb k e.0 other) (rw (is_at_other k e.0 other) (lookup_inserted es k v))
  ]
]

pub lookup_beside : {X : Type 0} (es : List (ℕ × X)) (k q : ℕ) (v : X) → (q ≡ k → ⊥) →
    lookup (is_at (nat_cmp q)) (insert_entry nat_cmp es k v) ≡ lookup (is_at (nat_cmp q)) es
lookup_beside [] k q v other = rw (is_at_other q k other) refl
lookup_beside {X} (e ∷ es) k q v other = elim (cases_lt k e.0) [
  | inl less ↦ rw (lt-ltb k e.0 less, is_at_other q k other) refl
  | inr from ↦ elim (cases_eq k e.0) [
    | inl same ↦ rw (le-ltb k e.0 from, eq-eqb k e.0 same) (rw (is_at_other q e.0 (λ x. other (x ∙ sym same))) refl)
    | inr apart ↦ rw (le-ltb k e.0 from, ne_eqb k e.0 apart)
        (ap (λ (x : Option X). cond (is_at (nat_cmp q) e.0) (Some e.1) x) (lookup_beside es k q v other))
  ]
]

pub lookup_set : {X : Type 0} (es : List (ℕ × X)) (k : ℕ) (v : X) → IsSome (lookup (is_at (nat_cmp k)) es) →
    lookup (is_at (nat_cmp k)) (set_value (is_at (nat_cmp k)) es v) ≡ Some v
lookup_set [] k v h = absurd (cc h)
lookup_set (e ∷ es) k v h = elim (cases_eq k e.0) [
  | inl same ↦ rw (is_at_equal k e.0 same) (rw (is_at_equal k e.0 same) refl)
  | inr other ↦ rw (is_at_other k e.0 other)
      (rw (is_at_other k e.0 other) (lookup_set es k v (rw (is_at_other k e.0 other) at h)))
]

pub lookup_set_beside : {X : Type 0} (es : List (ℕ × X)) (k q : ℕ) (v : X) → (q ≡ k → ⊥) →
    lookup (is_at (nat_cmp q)) (set_value (is_at (nat_cmp k)) es v) ≡ lookup (is_at (nat_cmp q)) es
lookup_set_beside [] k q v other = refl
lookup_set_beside {X} (e ∷ es) k q v other = elim (cases_eq k e.0) [
  | inl same ↦ rw (is_at_equal k e.0 same) (rw (is_at_other q e.0 (λ x. other (x ∙ sym same))) refl)
  | inr apart ↦ rw (is_at_other k e.0 apart)
      (ap (λ (x : Option X). cond (is_at (nat_cmp q) e.0) (Some e.1) x) (lookup_set_beside es k q v other))
]

-- a new entry that is taken out again
pub removed_again : {X : Type 0} (es : List (ℕ × X)) (k : ℕ) (v : X) → lookup (is_at (nat_cmp k)) es ≡ None →
    remove_entry (is_at (nat_cmp k)) (insert_entry nat_cmp es k v) ≡ es
removed_again [] k v none = rw (is_at_same k) refl
removed_again {X} (e ∷ es) k v none = elim (cases_lt k e.0) [
  | inl less ↦ rw (lt-ltb k e.0 less, is_at_same k) refl
  | inr from ↦ elim (cases_eq k e.0) [
    | inl same ↦ absurd (cc (rw (is_at_equal k e.0 same) at none))
    | inr other ↦ rw (le-ltb k e.0 from, ne_eqb k e.0 other)
        (rw (is_at_other k e.0 other)
        (ap (λ (x : List (ℕ × X)). e ∷ x) (removed_again es k v (rw (is_at_other k e.0 other) at none))))
  ]
]

pub some_there : {X : Type 0} (o : Option X) → is_some o ≡ true → (x : X) × (o ≡ Some x)
some_there None h = absurd (cc h)
some_there (Some x) h = (x, refl)
