-- Lists by number, as the world has them and as a cluster has them.
use Rattle.std.proofs.Common.{◌≡◌, ℕ, zero, suc, Bool, true, false, cond, List, [], ◌∷◌, Option, Some, None, refl, sym, ap, ◌∙◌}
use Rattle.std.specs.Prelude.{slice_get, map}
use Rattle.std.specs.Option.{option_map}
use Rattle.std.specs.Ordering.{nat_cmp, match_ordering}
use Rattle.std.specs.declared.cmp.Ordering.{Ordering}
use Rattle.std.specs.declared.cmp.Ordering.TheVariants.{Less, Equal, Greater}
use Rattle.std.specs.BTreeMap.{is_at}
use Rattle.std.proofs.lemmas.Map.Made.{lookup-map_values}
use Rattle.std.proofs.lemmas.Option.{slice_get-map}
use Rattle.world_history.specs.State.{at_number, with_number, and_number}
use Rattle.cluster_history.specs.Like.{each_as}

-- ---- what stands under a number

module _ {X Y : Type 0} (f : X → Y) where
  from_some : (o : Option X) (y : Y) → option_map f o ≡ Some y → (x : X) × (o ≡ Some x) × (f x ≡ y)
  from_some None y e = absurd (cc e)
  from_some (Some x) y e = (x, refl, cc e)

  from_none : (o : Option X) → option_map f o ≡ None → o ≡ None
  from_none None e = refl
  from_none (Some x) e = absurd (cc e)

  pub found_from : (xs : List (ℕ × X)) (n : ℕ) (y : Y) → at_number (each_as f xs) n ≡ Some y
      → (x : X) × (at_number xs n ≡ Some x) × (f x ≡ y)
  found_from xs n y e = from_some (at_number xs n) y (sym (lookup-map_values f (is_at (nat_cmp n)) xs) ∙ e)

  pub absent_from : (xs : List (ℕ × X)) (n : ℕ) → at_number (each_as f xs) n ≡ None → at_number xs n ≡ None
  absent_from xs n e = from_none (at_number xs n) (sym (lookup-map_values f (is_at (nat_cmp n)) xs) ∙ e)

  pub listed_from : (xs : List X) (n : ℕ) (y : Y) → slice_get (map f xs) n ≡ Some y
      → (x : X) × (slice_get xs n ≡ Some x) × (f x ≡ y)
  listed_from xs n y e = from_some (slice_get xs n) y (sym (slice_get-map f xs n) ∙ e)

  -- ---- changes

  put_if : (b : Bool) (e : ℕ × X) (x : X) (xs ys : List (ℕ × X)) (zs : List (ℕ × Y)) → each_as f ys ≡ zs
      → each_as f (cond b ((e.0, x) ∷ xs) (e ∷ ys)) ≡ cond b ((e.0, f x) ∷ each_as f xs) ((e.0, f e.1) ∷ zs)
  put_if true e x xs ys zs same = refl
  put_if false e x xs ys zs same = ap (λ (l : List (ℕ × Y)). (e.0, f e.1) ∷ l) same

  pub put_as : (xs : List (ℕ × X)) (n : ℕ) (x : X) → each_as f (with_number xs n x) ≡ with_number (each_as f xs) n (f x)
  put_as [] n x = refl
  put_as (e ∷ xs) n x = put_if (is_at (nat_cmp n) e.0) e x xs (with_number xs n x) _ (put_as xs n x)

  more_if : (o : Ordering) (n : ℕ) (e : ℕ × X) (x : X) (xs ys : List (ℕ × X)) (zs : List (ℕ × Y)) → each_as f ys ≡ zs
      → each_as f (match_ordering o ((n, x) ∷ e ∷ xs) ((e.0, x) ∷ xs) (e ∷ ys))
      ≡ match_ordering o ((n, f x) ∷ (e.0, f e.1) ∷ each_as f xs) ((e.0, f x) ∷ each_as f xs) ((e.0, f e.1) ∷ zs)
  more_if Less n e x xs ys zs same = refl
  more_if Equal n e x xs ys zs same = refl
  more_if Greater n e x xs ys zs same = ap (λ (l : List (ℕ × Y)). (e.0, f e.1) ∷ l) same

  pub more_as : (xs : List (ℕ × X)) (n : ℕ) (x : X) → each_as f (and_number xs n x) ≡ and_number (each_as f xs) n (f x)
  more_as [] n x = refl
  more_as (e ∷ xs) n x = more_if (nat_cmp n e.0) n e x xs (and_number xs n x) _ (more_as xs n x)

  same_if : (b : Bool) (e : ℕ × X) (x z : X) (xs ys : List (ℕ × X)) (o : Option X) → cond b (Some e.1) o ≡ Some x
      → f z ≡ f x → (o ≡ Some x → each_as f ys ≡ each_as f xs)
      → each_as f (cond b ((e.0, z) ∷ xs) (e ∷ ys)) ≡ each_as f (e ∷ xs)
  same_if true e x z xs ys o found same rest =
      let it : e.1 ≡ x = cc found in
      ap (λ (y : Y). (e.0, y) ∷ each_as f xs) (same ∙ sym (ap f it))
  same_if false e x z xs ys o found same rest = ap (λ (l : List (ℕ × Y)). (e.0, f e.1) ∷ l) (rest found)

  -- what f doesn't look at may change
  pub same_as : (xs : List (ℕ × X)) (n : ℕ) (x z : X) → at_number xs n ≡ Some x → f z ≡ f x
      → each_as f (with_number xs n z) ≡ each_as f xs
  same_as [] n x z found same = refl
  same_as (e ∷ xs) n x z found same =
      same_if (is_at (nat_cmp n) e.0) e x z xs (with_number xs n z) (at_number xs n) found same
      (λ rest. same_as xs n x z rest same)

module _ {X : Type 0} where
  put_found_if : (b : Bool) (e : ℕ × X) (x z : X) (n : ℕ) (xs : List (ℕ × X)) → is_at (nat_cmp n) e.0 ≡ b
      → cond b (Some e.1) (at_number xs n) ≡ Some x
      → (at_number xs n ≡ Some x → at_number (with_number xs n z) n ≡ Some z)
      → at_number (cond b ((e.0, z) ∷ xs) (e ∷ with_number xs n z)) n ≡ Some z
  put_found_if true e x z n xs is found rest = ap (λ (b : Bool). cond b (Some z) (at_number xs n)) is
  put_found_if false e x z n xs is found rest =
      ap (λ (b : Bool). cond b (Some e.1) (at_number (with_number xs n z) n)) is ∙ rest found

  -- what was put there is found there
  pub put_found : (xs : List (ℕ × X)) (n : ℕ) (x z : X) → at_number xs n ≡ Some x → at_number (with_number xs n z) n ≡ Some z
  put_found [] n x z found = absurd (cc found)
  put_found (e ∷ xs) n x z found =
      put_found_if (is_at (nat_cmp n) e.0) e x z n xs refl found (λ rest. put_found xs n x z rest)

  put_twice_if : (b : Bool) (e : ℕ × X) (y z : X) (n : ℕ) (xs : List (ℕ × X)) → is_at (nat_cmp n) e.0 ≡ b
      → with_number (with_number xs n y) n z ≡ with_number xs n z
      → with_number (cond b ((e.0, y) ∷ xs) (e ∷ with_number xs n y)) n z
      ≡ cond b ((e.0, z) ∷ xs) (e ∷ with_number xs n z)
  put_twice_if true e y z n xs is rest = ap (λ (b : Bool). cond b ((e.0, z) ∷ xs) ((e.0, y) ∷ with_number xs n z)) is
  put_twice_if false e y z n xs is rest =
      ap (λ (b : Bool). cond b ((e.0, z) ∷ with_number xs n y) (e ∷ with_number (with_number xs n y) n z)) is
      ∙ ap (λ (l : List (ℕ × X)). e ∷ l) rest

  -- the later of two changes stands
  pub put_twice : (xs : List (ℕ × X)) (n : ℕ) (y z : X)
      → with_number (with_number xs n y) n z ≡ with_number xs n z
  put_twice [] n y z = refl
  put_twice (e ∷ xs) n y z = put_twice_if (is_at (nat_cmp n) e.0) e y z n xs refl (put_twice xs n y z)
