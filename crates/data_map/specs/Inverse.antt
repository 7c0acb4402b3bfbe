-- The byte that lies at a place.
use Rattle.std.specs.Prelude.{◌≡◌, ◌⊎◌, ℕ, ◌+◌, ◌*◌, ◌/◌, ◌%◌, ◌≤◌, ◌==◌, if◌then◌else◌, Some}
use Rattle.data_map.specs.declared.check.RawMap.{RawMap}
use Rattle.data_map.specs.Striping.{positions, group_width, groups, stripe_length, row_of, place_of, p_of, q_of}

-- byte l of the file lies at this offset of this position
abbrev pub LiesAt : RawMap → ℕ → ℕ → ℕ → Type 0
LiesAt m l position offset = ((place_of m l).position ≡ position) × ((place_of m l).offset ≡ offset)

-- a stripe's P or Q lies at this offset of this position
abbrev pub HoldsParity : RawMap → ℕ → ℕ → Type 0
HoldsParity m position offset =
    (s : ℕ) × (row_of m s ≡ offset / m.unit) × ((p_of m s ≡ Some position) ⊎ (q_of m s ≡ Some position))

-- no byte of the file can lie there
abbrev pub HasNoByte : RawMap → ℕ → ℕ → Type 0
HasNoByte m position offset = (positions m ≤ position) ⊎ HoldsParity m position offset

-- ---- the formulas backwards, for the code's own steps

-- the stripe that has a row of a group
abbrev pub stripe_in : RawMap → ℕ → ℕ → ℕ
stripe_in m group row =
    if m.width == 0 then row else (row / m.depth) * (m.depth * groups m) + group * m.depth + row % m.depth

-- the unit of stripe s that lies at a place inside the group
abbrev pub unit_in : RawMap → ℕ → ℕ → ℕ
unit_in m s place = if m.algorithm == 3 then (place + s % group_width m) % group_width m else place

-- the stripe, and the unit of that stripe, that an offset of a position belongs to
abbrev pub stripe_at : RawMap → ℕ → ℕ → ℕ
stripe_at m position offset = stripe_in m (position / group_width m) (offset / m.unit)

abbrev pub unit_at : RawMap → ℕ → ℕ → ℕ
unit_at m position offset = unit_in m (stripe_at m position offset) (position % group_width m)

-- the byte that lies there, where the unit is one of data
abbrev pub byte_at : RawMap → ℕ → ℕ → ℕ
byte_at m position offset =
    stripe_at m position offset * stripe_length m + unit_at m position offset * m.unit + offset % m.unit
