-- The parity of a stripe's columns, as the steps of a write make it.
use Rattle.std.specs.Prelude.{◌≡◌, ℕ, zero, suc, ◌+◌, ◌-◌, ◌*◌, ◌<◌, ◌≤◌, if◌then◌else◌, unwrap_or, Option}
use Rattle.std.specs.Prelude.{List, [], ◌∷◌, length, map, take, slice_index, slice_index_or}
use Rattle.std.specs.List.{range_with_len}
use Rattle.data_map.specs.declared.check.RawMap.{RawMap}
use Rattle.data_map.specs.Striping.{group_of, group_width, data_units, offset_of}
use Rattle.parity_code.specs.Parity.{column}
use Rattle.stripe_plan.specs.declared.plan.Span.{Span}
use Rattle.stripe_plan.specs.declared.plan.Interval.{Interval}
use Rattle.stripe_plan.specs.declared.plan.Column.{Column}
use Rattle.stripe_plan.specs.Touched.{unit_start}
use Rattle.stripe_plan.specs.Parity.{overlaid, parity_of, p_changed, q_changed, parity_changed}
use Rattle.stripe_plan.specs.Lost.{is_out}
use Rattle.stripe_plan.specs.Asks.{own_columns}
use Rattle.stripe_plan.specs.Words.{got_at, known_from, new_at, news_at, laid_at, word_at}

-- ---- parity that is changed

-- n bytes of y from at on are f of those of x, of old ones and of new ones
pub record Exchanged (f : (x old new : ℕ) → ℕ) (at : ℕ) (old new x y : List ℕ) : Type 0 where
  pub inside : (k : ℕ) → k < length old
      → slice_index y (at + k) ≡ f (slice_index x (at + k)) (slice_index old k) (slice_index new k)
  pub before : (k : ℕ) → k < at → slice_index y k ≡ slice_index x k
  pub behind : (k : ℕ) → at + length old ≤ k → slice_index y k ≡ slice_index x k

-- P or Q as the byte of unit c changes, if there is a new one
abbrev pub one_changed : (row c : ℕ) → Option ℕ → (old x : ℕ) → ℕ
one_changed zero c n old x = p_changed (n ∷ []) (old ∷ []) x
one_changed (suc i) c n old x = q_changed c (n ∷ []) (old ∷ []) x

-- of some columns
abbrev pub UnitChanged : RawMap → Span → List ℕ → List Column → (s c row : ℕ) → Interval → (old new : List ℕ) → Type 0
UnitChanged m r bytes got s c row i old new =
    (k : ℕ) → k < i.end - i.first
    → slice_index new k
    ≡ one_changed row c (new_at m r bytes s (i.first + k) c) (got_at m got s (i.first + k) c) (slice_index old k)

-- and by all units
abbrev pub changed_parity : RawMap → Span → List ℕ → List Column → (s b row : ℕ) → ℕ
changed_parity m r bytes got s b row =
    parity_changed row (news_at m r bytes s b) (known_from m got [] s b 0 (data_units m))
    (got_at m got s b (data_units m + row))

-- ---- parity that is made anew

-- bytes laid over the first n units of a stripe's columns
pub record NewLaid (m : RawMap) (r : Span) (bytes : List ℕ) (s : ℕ) (i : Interval) (n : ℕ) (old new : List (List ℕ))
    : Type 0 where
  pub shape : map length new ≡ map length old
  pub each : (k c : ℕ) → k < i.end - i.first → c < n
      → slice_index (column new k) c
      ≡ laid_at r.offset bytes (unit_start m s c + (i.first + k)) (slice_index (column old k) c)
  pub rest : (k c : ℕ) → k < i.end - i.first → n ≤ c → slice_index (column new k) c ≡ slice_index (column old k) c

-- of columns that had these bytes before the new ones were put in
abbrev pub encoded_parity : RawMap → Span → List ℕ → (s : ℕ) → (ℕ → List ℕ) → (b row : ℕ) → ℕ
encoded_parity m r bytes s f b row = parity_of row (overlaid (news_at m r bytes s b) (take (data_units m) (f b)))

-- ---- the parity of some columns

-- the last n rows are these bytes
pub record HasParity (n : ℕ) (i : Interval) (f : (b row : ℕ) → ℕ) (rows : List (List ℕ)) : Type 0 where
  pub enough : n ≤ length rows
  pub each : (row : ℕ) → row < n
      → slice_index_or rows (length rows - n + row) []
      ≡ map (λ (b : ℕ). f b row) (range_with_len i.first (i.end - i.first))

-- of each of some columns, in order
pub record AreParities (n : ℕ) (is : List Interval) (f : (b row : ℕ) → ℕ) (all : List (List (List ℕ))) : Type 0 where
  pub long : length all ≡ length is
  pub each : (j : ℕ) (d : Interval) → j < length is → HasParity n (slice_index_or is j d) f (slice_index_or all j [])

-- columns of one unit
abbrev pub IsInUnit : RawMap → Interval → Type 0
IsInUnit m i = i.end ≤ m.unit

-- ---- as columns of positions

-- row `row` of that parity, at position p
abbrev pub parity_column : RawMap → (s p : ℕ) → (f : ℕ → ℕ → ℕ) → (row : ℕ) → Interval → Column
parity_column m s p f row i = record {
  position = p;
  offset = offset_of m s i.first;
  bytes = map (λ (b : ℕ). f b row) (range_with_len i.first (i.end - i.first));
}

abbrev pub parity_columns : RawMap → (s p : ℕ) → (f : ℕ → ℕ → ℕ) → (row : ℕ) → List Interval → List Column
parity_columns m s p f row is = map (parity_column m s p f row) is

-- the new bytes of data unit c in these columns
abbrev pub new_in : RawMap → Span → List ℕ → (s c : ℕ) → Interval → List ℕ
new_in m r bytes s c i =
    map (λ (b : ℕ). unwrap_or (new_at m r bytes s b c) 0) (range_with_len i.first (i.end - i.first))

-- and at position p
abbrev pub data_column : RawMap → Span → List ℕ → (s c p : ℕ) → Interval → Column
data_column m r bytes s c p i = record {
  position = p;
  offset = offset_of m s i.first;
  bytes = new_in m r bytes s c i;
}

abbrev pub data_columns : RawMap → Span → List ℕ → (s c p : ℕ) → List Column
data_columns m r bytes s c p = map (data_column m r bytes s c p) (own_columns m r s c)

-- ---- a stripe that the range holds whole

-- all columns of a unit
abbrev pub all_columns : RawMap → Interval
all_columns m = record { first = 0; end = m.unit }

-- the row of unit c before the parity is made: its new bytes, or room for parity
pub record IsNewRow (m : RawMap) (r : Span) (bytes : List ℕ) (s c : ℕ) (row : List ℕ) : Type 0 where
  pub long : length row ≡ m.unit
  pub fresh : c < data_units m → row ≡ new_in m r bytes s c (all_columns m)

-- those of n units
pub record NewRows (m : RawMap) (r : Span) (bytes : List ℕ) (s n : ℕ) (rows : List (List ℕ)) : Type 0 where
  pub count : length rows ≡ n
  pub each : (c : ℕ) → c < n → IsNewRow m r bytes s c (slice_index_or rows c [])

-- what a write puts into unit c in these columns
abbrev pub words_in : RawMap → Span → List ℕ → List Column → List ℕ → (s c : ℕ) → Interval → List ℕ
words_in m r bytes got out s c i =
    map (λ (b : ℕ). word_at m r bytes got out s b c) (range_with_len i.first (i.end - i.first))

-- rows of what it puts into each unit
pub record AreWords (m : RawMap) (r : Span) (bytes : List ℕ) (got : List Column) (out : List ℕ) (s : ℕ)
    (rows : List (List ℕ)) : Type 0 where
  pub count : length rows ≡ group_width m
  pub each : (c : ℕ) → c < group_width m → slice_index_or rows c [] ≡ words_in m r bytes got out s c (all_columns m)

-- the row of the unit at place i of the stripe's group as a column, but for a position that is out
abbrev pub place_column : RawMap → List ℕ → (s i : ℕ) → List ℕ → List Column
place_column m out s i row =
    if is_out m out (group_of m s * group_width m + i) then []
    else record { position = group_of m s * group_width m + i; offset = offset_of m s 0; bytes = row } ∷ []
