-- Lists of numbers that differ, and the objects of components of which some are lost or made anew.
use Rattle.std.proofs.Common.{◌≡◌, ◌⊎◌, ◌==◌, ℕ, zero, suc, ◌+◌, ◌<◌, ◌≤◌, Bool, true, false, List, [], ◌∷◌, length, slice_set, refl, sym, ap, ◌∙◌, arith, inl, inr, if◌then◌else◌}
use Rattle.server_rules.specs.Laws.{In}
use Rattle.server_rules.specs.Numbers.{among}
use Rattle.server_rules.specs.Standing.{lose_on, lose_from}
use Rattle.server_rules.specs.Making.{components_on}
use Rattle.history_law.specs.Names.{Component}
use Rattle.component_law.specs.Objects.{objects_of, NoneIs, AllDiffer}

-- ---- numbers

pub none_above : (o : ℕ) (xs : List ℕ) → ((x : ℕ) → In x xs → x < o) → NoneIs o xs
none_above o [] each = tt
none_above o (x ∷ xs) each =
    (λ e. let less : x < o = each x (inl refl) in omega (arith, less, e), none_above o xs (λ y i. each y (inr i)))

pub in_set : (xs : List ℕ) (i y x : ℕ) → In x (slice_set xs i y) → (x ≡ y) ⊎ In x xs
in_set [] i y x j = absurd j
in_set (z ∷ xs) zero y x (inl e) = inl e
in_set (z ∷ xs) zero y x (inr j) = inr (inr j)
in_set (z ∷ xs) (suc i) y x (inl e) = inr (inl e)
in_set (z ∷ xs) (suc i) y x (inr j) = elim (in_set xs i y x j) [ inl e ↦ inl e | inr k ↦ inr (inr k) ]

set_none : (xs : List ℕ) (i y o : ℕ) → NoneIs o xs → (y ≡ o → ⊥) → NoneIs o (slice_set xs i y)
set_none [] i y o none other = tt
set_none (z ∷ xs) zero y o none other = (other, none.1)
set_none (z ∷ xs) (suc i) y o none other = (none.0, set_none xs i y o none.1 other)

pub set_differ : (xs : List ℕ) (i y : ℕ) → AllDiffer xs → NoneIs y xs → AllDiffer (slice_set xs i y)
set_differ [] i y d none = tt
set_differ (z ∷ xs) zero y d none = (none.1, d.1)
set_differ (z ∷ xs) (suc i) y d none =
    (set_none xs i y z d.0 (λ e. none.0 (sym e)), set_differ xs i y d.1 none.1)

-- ---- components

pub objects_set : (cs : List Component) (i : ℕ) (y : Component)
    → objects_of (slice_set cs i y) ≡ slice_set (objects_of cs) i y.object
objects_set [] i y = refl
objects_set (at ∷ cs) zero y = refl
objects_set (at ∷ cs) (suc i) y = ap (λ (xs : List ℕ). at.object ∷ xs) (objects_set cs i y)

lost_object : (b : Bool) (at : Component) → (if b then record at { missing = true } else at).object ≡ at.object
lost_object true at = refl
lost_object false at = refl

both_same : (x y : ℕ) (xs ys : List ℕ) → x ≡ y → xs ≡ ys → x ∷ xs ≡ y ∷ ys
both_same x y xs ys e f = ap (λ (z : ℕ). z ∷ xs) e ∙ ap (λ (zs : List ℕ). y ∷ zs) f

pub objects_from : (ks : List ℕ) (cs : List Component) (k : ℕ) → objects_of (lose_from ks cs k) ≡ objects_of cs
unfolding lose_from
objects_from ks [] k = refl
objects_from ks (at ∷ cs) k = both_same _ _ _ _ (lost_object (among k ks) at) (objects_from ks cs (k + 1))

pub objects_on : (drive : ℕ) (cs : List Component) → objects_of (lose_on drive cs) ≡ objects_of cs
unfolding lose_on
objects_on drive [] = refl
objects_on drive (at ∷ cs) = both_same _ _ _ _ (lost_object (at.drive == drive) at) (objects_on drive cs)

-- ---- those of a new file

pub in_new : (ds : List ℕ) (n o : ℕ) → In o (objects_of (components_on ds n))
    → (n ≤ o) × (o < n + length (components_on ds n))
unfolding components_on
in_new [] n o i = absurd i
in_new (d ∷ ds) n o (inl e) = (omega (arith, e), omega (arith, e))
in_new (d ∷ ds) n o (inr i) = let r = in_new ds (n + 1) o i in (omega (arith, r.0), omega (arith, r.1))

none_below : (n : ℕ) (xs : List ℕ) → ((x : ℕ) → In x xs → n + 1 ≤ x) → NoneIs n xs
none_below n [] each = tt
none_below n (x ∷ xs) each = (
  λ e. let more : n + 1 ≤ x = each x (inl refl) in omega (arith, more, e),
  none_below n xs (λ y i. each y (inr i)),
)

pub new_differ : (ds : List ℕ) (n : ℕ) → AllDiffer (objects_of (components_on ds n))
unfolding components_on
new_differ [] n = tt
new_differ (d ∷ ds) n =
    (none_below n (objects_of (components_on ds (n + 1))) (λ x i. (in_new ds (n + 1) x i).0), new_differ ds (n + 1))
