-- Stretches of positions by the row that they lie in.
use Rattle.std.specs.Prelude.{◌≡◌, ◌⊎◌, ℕ, ◌+◌, ◌*◌, ◌/◌, ◌%◌, ◌<◌, ◌≤◌, ◌==◌, Bool, true, if◌then◌else◌}
use Rattle.std.specs.Prelude.{List, [], ◌∷◌, length, map, slice_index_or}
use Rattle.std.specs.List.{All}
use Rattle.stripe_plan.specs.declared.plan.Interval.{Interval}
use Rattle.stripe_plan.specs.declared.plan.Stretch.{Stretch}
use Rattle.stripe_plan.specs.declared.plan.Column.{Column}
use Rattle.stripe_plan.specs.declared.row_index.RowIndex.{RowIndex}
use Rattle.stripe_plan.specs.declared.row_index.TheConstants.{MOST_LISTS}

-- the bytes that a column has
abbrev pub stretch_of : Column → Stretch
stretch_of c = record { position = c.position; first = c.offset; end = c.offset + length c.bytes }

abbrev pub stretches_of : List Column → List Stretch
stretches_of cols = map stretch_of cols

-- the numbers, from n on, of the stretches for which a test holds
unfoldable pub numbers_from : (Stretch → Bool) → List Stretch → (n : ℕ) → List ℕ
numbers_from test [] n = []
numbers_from test (t ∷ ts) n = if test t then n ∷ numbers_from test ts (n + 1) else numbers_from test ts (n + 1)

-- the one of some lists in which a row of position p stands
unfoldable pub list_of : (lists p row : ℕ) → ℕ
list_of lists p row = (row % lists * 67 + p) % lists

abbrev pub stands_in : (lists unit list : ℕ) → Stretch → Bool
stands_in lists unit list t = list_of lists t.position (t.first / unit) == list

-- a stretch that ends in the row in which it begins
abbrev pub IsInRow : (unit : ℕ) → Stretch → Type 0
IsInRow unit t = (t.first ≤ t.end) × (t.end ≤ (t.first / unit + 1) * unit)

-- an index that has lists, if what is in it ends in the row in which it begins
abbrev pub IsSound : RowIndex → Type 0
IsSound x = (0 < x.unit) × (x.is_regular ≡ true → 0 < length x.lists) × (length x.lists ≤ MOST_LISTS)

-- so many empty lists
pub record AreEmpty (n : ℕ) (lists : List (List ℕ)) : Type 0 where
  pub count : length lists ≡ n
  pub each : (k : ℕ) → k < n → slice_index_or lists k [] ≡ []

-- an index of these stretches
pub record Indexes (ts : List Stretch) (x : RowIndex) : Type 0 where
  pub sound : IsSound x
  pub every : x.every ≡ numbers_from (λ t. true) ts 0
  pub each : (list : ℕ) → list < length x.lists
      → slice_index_or x.lists list [] ≡ numbers_from (stands_in (length x.lists) x.unit list) ts 0
  pub rows : x.is_regular ≡ true → All (IsInRow x.unit) ts

-- a stretch that has no byte of this interval of position p
abbrev pub IsApart : (p : ℕ) → Interval → Stretch → Type 0
IsApart p i t = (t.position ≡ p → ⊥) ⊎ ((t.first ≤ t.end) × ((t.end ≤ i.first) ⊎ (i.end ≤ t.first)))

-- rising numbers, from n on, of stretches among which are all that have bytes of the interval
unfoldable pub Sifts : (p : ℕ) → Interval → List Stretch → (n : ℕ) → List ℕ → Type 0
Sifts p i [] n ns = ns ≡ []
Sifts p i (t ∷ ts) n ns =
    ((rest : List ℕ) × (ns ≡ n ∷ rest) × Sifts p i ts (n + 1) rest) ⊎ (IsApart p i t × Sifts p i ts (n + 1) ns)
