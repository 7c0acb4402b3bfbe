-- Where the bytes of a file lie: five formulas over whole numbers.
-- They follow the striping, grouping and mirroring of RFC 5664 (5.3, 5.4), in this project's own form.
use Rattle.std.specs.Prelude.{ℕ, ◌+◌, ◌-◌, ◌*◌, ◌/◌, ◌%◌, ◌==◌, if◌then◌else◌, Option, Some, None}
use Rattle.data_map.specs.declared.check.RawMap.{RawMap}
use Rattle.data_map.specs.declared.place.Place.{Place}

-- ---- the shape of a map

-- a position stands for a component and its mirrors
abbrev pub replicas : RawMap → ℕ
replicas m = m.mirrors + 1

abbrev pub positions : RawMap → ℕ
positions m = m.comps / replicas m

-- a group holds whole stripes; without groups all positions are one
abbrev pub group_width : RawMap → ℕ
group_width m = if m.width == 0 then positions m else m.width

abbrev pub groups : RawMap → ℕ
groups m = positions m / group_width m

-- RAID 0 has no parity, RAID 4 and 5 have P, RAID P+Q has P and Q
abbrev pub parities : RawMap → ℕ
parities m = if m.algorithm == 1 then 0 else if m.algorithm == 4 then 2 else 1

abbrev pub data_units : RawMap → ℕ
data_units m = group_width m - parities m

-- the bytes of the file in one stripe
abbrev pub stripe_length : RawMap → ℕ
stripe_length m = data_units m * m.unit

-- ---- 1: the stripe of byte l, its data unit in the stripe, and its column in the unit

abbrev pub stripe_of : RawMap → ℕ → ℕ
stripe_of m l = l / stripe_length m

abbrev pub data_unit_of : RawMap → ℕ → ℕ
data_unit_of m l = (l % stripe_length m) / m.unit

abbrev pub column_of : RawMap → ℕ → ℕ
column_of m l = (l % stripe_length m) % m.unit

-- ---- 2: the group of stripe s and its row there: depth stripes go to a group before the next group's turn

abbrev pub group_of : RawMap → ℕ → ℕ
group_of m s = if m.width == 0 then 0 else (s / m.depth) % groups m

abbrev pub row_of : RawMap → ℕ → ℕ
row_of m s = if m.width == 0 then s else (s / (m.depth * groups m)) * m.depth + s % m.depth

-- ---- 3: the offset in the component of a column of stripe s

abbrev pub offset_of : RawMap → ℕ → ℕ → ℕ
offset_of m s column = row_of m s * m.unit + column

-- ---- 4: the position of unit c of stripe s: the data units, then P, then Q; RAID 5 turns them by a position a stripe

abbrev pub turned : RawMap → ℕ → ℕ → ℕ
turned m s c = if m.algorithm == 3 then (c + group_width m - s % group_width m) % group_width m else c

abbrev pub position_of : RawMap → ℕ → ℕ → ℕ
position_of m s c = turned m s c + group_of m s * group_width m

-- ---- 5: the component that holds replica i of a position

abbrev pub replica_of : RawMap → ℕ → ℕ → ℕ
replica_of m position i = position * replicas m + i

-- ---- what they give

-- the place of byte l of the file
abbrev pub place_of : RawMap → ℕ → Place
place_of m l = record {
  position = position_of m (stripe_of m l) (data_unit_of m l);
  offset = offset_of m (stripe_of m l) (column_of m l);
  stripe = stripe_of m l;
}

-- the positions of P and Q of a stripe
abbrev pub p_of : RawMap → ℕ → Option ℕ
p_of m s = if parities m == 0 then None else Some (position_of m s (data_units m))

abbrev pub q_of : RawMap → ℕ → Option ℕ
q_of m s = if parities m == 2 then Some (position_of m s (data_units m + 1)) else None

-- how many bytes of the file from l on lie in one unit
abbrev pub left_in_unit : RawMap → ℕ → ℕ
left_in_unit m l = m.unit - l % m.unit
