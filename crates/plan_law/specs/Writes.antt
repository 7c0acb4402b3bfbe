-- The columns and cells that a write touches, and the WRITEs that carry its bytes.
use Rattle.std.specs.Prelude.{◌≡◌, ◌⊎◌, ℕ, ◌≤◌, [], ◌∷◌, zero, suc, ◌+◌, ◌/◌, ◌%◌, ◌<◌, nat_le, nat_lt, Bool, true, false, not}
use Rattle.std.specs.Prelude.{◌&&◌, ◌||◌, if◌then◌else◌, List, length, slice_index}
use Rattle.data_map.specs.declared.check.RawMap.{RawMap}
use Rattle.data_map.specs.Striping.{data_units, offset_of}
use Rattle.data_map.specs.Inverse.{stripe_at, unit_at, byte_at}
use Rattle.file_log.specs.Judge.{byte_for}
use Rattle.fence_law.specs.Columns.{AreBytes, overlaid}
use Rattle.stripe_plan.specs.declared.plan.Span.{Span}
use Rattle.stripe_plan.specs.declared.plan.Column.{Column}
use Rattle.stripe_plan.specs.declared.plan.Store.{Store}
use Rattle.stripe_plan.specs.declared.plan.Interval.{Interval}
use Rattle.stripe_plan.specs.Asks.{changed}
use Rattle.stripe_plan.specs.Touched.{end_of, unit_start}
use Rattle.stripe_plan.specs.Lost.{among}
use Rattle.plan_law.specs.FileLayout.{has_parity, has_component, position_in, column_of_cell, word_in}
use Rattle.plan_law.specs.Got.{Fits}

-- ---- columns and cells

-- byte l is one of the range
abbrev pub in_range : Span → (l : ℕ) → Bool
in_range r l = nat_le r.offset l && nat_lt l (end_of r)

-- one of n data units of stripe s from c on has a byte of the range in its column b
unfoldable pub some_unit_touched : RawMap → Span → (s b c n : ℕ) → Bool
some_unit_touched m r s b c zero = false
some_unit_touched m r s b c (suc n) = in_range r (unit_start m s c + b) || some_unit_touched m r s b (c + 1) n

-- the range has a byte in column x of the file
abbrev pub touches_column : RawMap → Span → (x : ℕ) → Bool
touches_column m r x =
    if has_parity m then some_unit_touched m r (x / m.unit) (x % m.unit) 0 (data_units m) else in_range r x

-- a write of the range changes byte z of component k: it is one of the range, or parity of a column that has one
abbrev pub touches_cell : RawMap → Span → (k z : ℕ) → Bool
touches_cell m r k z =
    if nat_lt (unit_at m (position_in m k) z) (data_units m) then in_range r (byte_at m (position_in m k) z)
    else some_unit_touched m r (stripe_at m (position_in m k) z) (z % m.unit) 0 (data_units m)

-- so it does, and the layout doesn't leave the component out
abbrev pub hits_cell : RawMap → Span → (left : ℕ → Bool) → (k z : ℕ) → Bool
hits_cell m r left k z = has_component m k && (not (left k) && touches_cell m r k z)

-- byte z of component k after the write, where the file had the bytes d before it
abbrev pub word_after : RawMap → Span → List ℕ → (k z : ℕ) → (d : ℕ → ℕ) → ℕ
word_after m r bytes k z d = word_in m k z (overlaid (byte_for r.offset bytes) d)

-- ---- the WRITEs

-- the first column of the interval that has column b, among rising ones
unfoldable pub interval_start : (b : ℕ) → List Interval → ℕ
interval_start b [] = 0
interval_start b (i ∷ is) = if nat_lt b i.end then i.first else interval_start b is

-- and the column behind its last
unfoldable pub interval_end : (b : ℕ) → List Interval → ℕ
interval_end b [] = 0
interval_end b (i ∷ is) = if nat_lt b i.end then i.end else interval_end b is

-- the number of the WRITE that carries byte z of component k: the offset at which it begins
abbrev pub part_of : RawMap → Span → (k z : ℕ) → ℕ
part_of m r k z =
    offset_of m (stripe_at m (position_in m k) z)
    (interval_start (z % m.unit) (changed m r (stripe_at m (position_in m k) z) (unit_at m (position_in m k) z)))

-- one of the WRITEs carries byte z of component k
abbrev pub IsCarried : List Store → (k z : ℕ) → Type 0
IsCarried [] k z = ⊥
IsCarried (w ∷ ws) k z =
    ((w.ask.component ≡ k) × (w.ask.offset ≤ z) × (z < w.ask.offset + length w.bytes)) ⊎ IsCarried ws k z

-- The WRITE goes to a component that isn't out. Each of its bytes is one that the write changes, and is what stands
-- there after the write, for all data that fit what was got of its column. The bytes that are carried under the number of
-- this WRITE, the offset at which it begins, are its own and no others.
pub record IsRightStore (m : RawMap) (r : Span) (bytes : List ℕ) (got : List Column) (out : List ℕ) (w : Store) : Type 0
  where
    pub below : w.ask.component < m.comps
    pub there : among w.ask.component out ≡ false
    pub some : 0 < length w.bytes
    pub changed : (j : ℕ) → j < length w.bytes → touches_cell m r w.ask.component (w.ask.offset + j) ≡ true
    pub part : (j : ℕ) → j < length w.bytes → part_of m r w.ask.component (w.ask.offset + j) ≡ w.ask.offset
    pub cells : (z : ℕ) → touches_cell m r w.ask.component z ≡ true → part_of m r w.ask.component z ≡ w.ask.offset →
        (w.ask.offset ≤ z) × (z < w.ask.offset + length w.bytes)
    pub each : (j : ℕ) (d : ℕ → ℕ) → j < length w.bytes → AreBytes d →
        Fits m got (column_of_cell m w.ask.component (w.ask.offset + j)) d →
        slice_index w.bytes j ≡ word_after m r bytes w.ask.component (w.ask.offset + j) d
