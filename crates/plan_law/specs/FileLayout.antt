-- The layout of a striped file, in the words of the machine of a fenced file.
-- With parity a column is the bytes of one stripe at one offset of its units, with their parity; in a file without
-- parity each byte is a column of its own.
use Rattle.std.specs.Prelude.{ℕ, ◌+◌, ◌*◌, ◌/◌, ◌%◌, nat_eq, nat_lt, Bool, ◌&&◌, if◌then◌else◌}
use Rattle.data_map.specs.declared.check.RawMap.{RawMap}
use Rattle.data_map.specs.Striping.{replicas, parities, stripe_of, column_of, place_of}
use Rattle.data_map.specs.Inverse.{stripe_at, unit_at, byte_at}
use Rattle.stripe_plan.specs.Laws.{word_of}
use Rattle.fence_law.specs.State.{Layout}

-- stripes have parity
abbrev pub has_parity : RawMap → Bool
has_parity m = nat_lt 0 (parities m)

-- the map has component k
abbrev pub has_component : RawMap → (k : ℕ) → Bool
has_component m k = nat_lt k m.comps

-- the position of component k, which its mirrors have too
abbrev pub position_in : RawMap → (k : ℕ) → ℕ
position_in m k = k / replicas m

-- the column of byte l of the file
abbrev pub column_at : RawMap → (l : ℕ) → ℕ
column_at m l = if has_parity m then stripe_of m l * m.unit + column_of m l else l

-- the column of the cell at offset z of component k
abbrev pub column_of_cell : RawMap → (k z : ℕ) → ℕ
column_of_cell m k z =
    if has_parity m then stripe_at m (position_in m k) z * m.unit + z % m.unit else byte_at m (position_in m k) z

-- the stripe of a column
abbrev pub stripe_of_column : RawMap → (x : ℕ) → ℕ
stripe_of_column m x = if has_parity m then x / m.unit else stripe_of m x

-- the cell is a copy of byte l: the byte lies at this offset of the component's position
abbrev pub is_copy : RawMap → (k z l : ℕ) → Bool
is_copy m k z l = nat_eq (place_of m l).position (position_in m k) && nat_eq (place_of m l).offset z

-- what the cell should hold in a file of these bytes: a byte, or parity
abbrev pub word_in : RawMap → (k z : ℕ) → (ℕ → ℕ) → ℕ
word_in m k z d =
    word_of m d (stripe_at m (position_in m k) z) (z % m.unit) (unit_at m (position_in m k) z)

-- the layout of a file with this map that was made with this tag
abbrev pub layout_of : RawMap → (first_tag : ℕ) → Layout
layout_of m tag = record {
  components = m.comps;
  first_tag = tag;
  position = position_in m;
  col = column_at m;
  coded = λ x. has_parity m;
  is_cell = λ k z. has_component m k;
  cell_col = column_of_cell m;
  copy = is_copy m;
  word = word_in m;
}
