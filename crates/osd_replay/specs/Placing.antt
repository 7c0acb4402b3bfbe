-- Where components go: to the online drives with the fewest objects, and of equals to those with the lower numbers.
use Rattle.std.specs.Prelude.{◌≡◌, ℕ, List, map, take}
use Rattle.std.specs.List.{filter}
use Rattle.std.specs.List.Sorted.{IsPermutation, IsSorted}
use Rattle.std.specs.Ordering.{nat_cmp, ordering_then}
use Rattle.stripe_repair.specs.declared.loads.DriveLoad.{DriveLoad}

-- the online drives, each as its objects and its number
abbrev pub online_pairs : List DriveLoad → List (ℕ × ℕ)
online_pairs loads = map (λ (l : DriveLoad). (l.objects, l.drive)) (filter (λ (l : DriveLoad). l.online) loads)

-- these are the online drives, where those with fewer objects come first, and of equals those with lower numbers
pub record IsInOrder (loads : List DriveLoad) (pairs : List (ℕ × ℕ)) : Type 0 where
  pub same : IsPermutation (online_pairs loads) pairs
  pub sorted : IsSorted (λ (x y : ℕ × ℕ). ordering_then (nat_cmp x.0 y.0) (nat_cmp x.1 y.1)) pairs

-- the numbers of the first n of them
pub record TakesFewest (n : ℕ) (loads : List DriveLoad) (chosen : List ℕ) : Type 0 where
  pub pairs : List (ℕ × ℕ)
  pub order : IsInOrder loads pairs
  pub first : chosen ≡ map (λ (pair : ℕ × ℕ). pair.1) (take n pairs)
