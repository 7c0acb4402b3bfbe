-- The queue of a scatter: places, some of which were emptied.
use Rattle.std.specs.Prelude.{◌≡◌, ◌⊎◌, ◌<◌, ◌≤◌, ℕ, Bool, true, false, not, ◌==◌, List, [], ◌∷◌, length, Option, Some, None, slice_index_or, unwrap_or}
use Rattle.std.specs.Map.{lookup}
use Rattle.std.specs.BTreeMap.{is_at}
use Rattle.std.specs.Ordering.{nat_cmp}
use Rattle.call_commands.specs.State.{Store}

-- the writes that were not taken
unfoldable pub present : List (Option Store) → List Store
present [] = []
present (None ∷ xs) = present xs
present (Some w ∷ xs) = w ∷ present xs

-- where the search for a write to component k begins
abbrev pub first_place : List (ℕ × ℕ) → (k : ℕ) → ℕ
first_place es k = unwrap_or (lookup (is_at (nat_cmp k)) es) 0

-- a place has a write to component k
abbrev pub is_to : Option Store → (k : ℕ) → Bool
is_to None k = false
is_to (Some w) k = w.ask.component == k

-- or to another one
abbrev pub is_to_other : Option Store → (k : ℕ) → Bool
is_to_other None k = false
is_to_other (Some w) k = not (w.ask.component == k)

-- no place before place n has a write to component k
abbrev pub NoneBefore : List (Option Store) → (k n : ℕ) → Type 0
NoneBefore xs k n = (j : ℕ) → j < n → is_to (slice_index_or xs j None) k ≡ false

-- none before that at which the search begins
abbrev pub StandBehind : List (ℕ × ℕ) → List (Option Store) → Type 0
StandBehind es xs = (k : ℕ) → (first_place es k ≤ length xs) × NoneBefore xs k (first_place es k)

-- the search for component k begins at that place from now on, or where it did, and others do as they did
abbrev pub Notes : (es fs : List (ℕ × ℕ)) → (k place : ℕ) → Type 0
Notes es fs k place = (j : ℕ) → (first_place fs j ≡ first_place es j) ⊎ ((j ≡ k) × (first_place fs j ≡ place))

-- place i has the first write to component k
pub record IsFirstTo (xs : List (Option Store)) (k i : ℕ) : Type 0 where
  pub inside : i < length xs
  pub there : is_to (slice_index_or xs i None) k ≡ true
  pub none : NoneBefore xs k i
