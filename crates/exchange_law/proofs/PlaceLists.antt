-- What holds of each member of a list.
use Rattle.std.proofs.Common.{ℕ, zero, suc, ◌+◌, ◌≤◌, ◌<◌, Bool, true, false, List, [], ◌∷◌, map, arith, if◌then◌else◌}
use Rattle.std.specs.List.{AllByRecursion, range_with_len}

pub all_wider : {A : Type 0} (P Q : A → Type 0) → ((x : A) → P x → Q x) → (xs : List A) → AllByRecursion P xs
    → AllByRecursion Q xs
all_wider P Q w [] k = tt
all_wider P Q w (x ∷ xs) k = (w x k.0, all_wider P Q w xs k.1)

pub all_map : {A B : Type 0} (f : A → B) (P : A → Type 0) (Q : B → Type 0) → ((x : A) → P x → Q (f x)) → (xs : List A)
    → AllByRecursion P xs → AllByRecursion Q (map f xs)
all_map f P Q w [] k = tt
all_map f P Q w (x ∷ xs) k = (w x k.0, all_map f P Q w xs k.1)

pub either_all : {A : Type 0} (P : A → Type 0) (b : Bool) (xs ys : List A) → AllByRecursion P xs → AllByRecursion P ys
    → AllByRecursion P (if b then xs else ys)
either_all P true xs ys k l = k
either_all P false xs ys k l = l

-- numbers one after another
pub all_between : (a n : ℕ) → AllByRecursion (λ (s : ℕ). (a ≤ s) × (s < a + n)) (range_with_len a n)
all_between a zero = tt
all_between a (suc n) = (
  (omega arith, omega arith),
  all_wider _ _ (λ s k. (omega (arith, k.0), omega (arith, k.1))) (range_with_len (a + 1) n) (all_between (a + 1) n),
)
