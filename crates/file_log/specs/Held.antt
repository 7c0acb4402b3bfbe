-- What the judge holds on its way through a log, and how it stands for candidates.
use Rattle.std.specs.Prelude.{◌≡◌, ◌↔◌, ℕ, List, [], ◌∷◌, Contains, Option, Some, None}
use Rattle.std.specs.Ordering.{nat_cmp}
use Rattle.std.specs.BTreeMap.{is_at}
use Rattle.std.specs.Map.{lookup}
use Rattle.file_log.specs.Judge.{Candidates}

-- the values that are kept for a position, or the zero of a new file
abbrev pub kept_or_zero : Option (List ℕ) → List ℕ
kept_or_zero None = 0 ∷ []
kept_or_zero (Some values) = values

-- the values at position p, of lists that are kept by position
abbrev pub values_in : List (ℕ × List ℕ) → ℕ → List ℕ
values_in kept p = kept_or_zero (lookup (is_at (nat_cmp p)) kept)

-- what the judge holds: values by position, and sizes
pub record Kept : Type 0 where
  pub values : List (ℕ × List ℕ)
  pub sizes : List ℕ

abbrev pub held_by : Kept → Candidates
held_by k = record { values = λ p. values_in k.values p; sizes = k.sizes }

-- Candidates between which no judge can tell: the same values, and sizes of which the same are members, in any order
-- and number.
pub record AreSame (a b : Candidates) : Type 0 where
  pub values : (p : ℕ) → a.values p ≡ b.values p
  pub sizes : (n : ℕ) → Contains a.sizes n ↔ Contains b.sizes n
