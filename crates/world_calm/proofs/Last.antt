-- The last of some stripes.
use Rattle.std.proofs.Common.{◌≡◌, ℕ, ◌-◌, ◌==◌, ◌∷◌, [], List, Bool, false, Option, Some, None, length, slice_get, refl, sym, ap, ◌∙◌, arith}
use Rattle.world_calm.specs.Marking.{last_is_from, last_is}

-- it is this one
abbrev pub is_last : (stripe : ℕ) → Option ℕ → Bool
is_last s None = false
is_last s (Some x) = x == s

last_behind : (s x : ℕ) (xs : List ℕ) → last_is_from (x == s) s xs ≡ is_last s (slice_get (x ∷ xs) (length xs))
last_behind s x [] = refl
last_behind s x (y ∷ ys) = last_behind s y ys

pub last_says : (s : ℕ) (ss : List ℕ) → last_is s ss ≡ is_last s (slice_get ss (length ss - 1))
last_says s [] = refl
last_says s (x ∷ xs) =
    let end : length (x ∷ xs) - 1 ≡ length xs = omega arith in
    last_behind s x xs ∙ ap (λ k. is_last s (slice_get (x ∷ xs) k)) (sym end)
