-- Ranges of a file: the stripes that they touch, and their parts unit by unit.
use Rattle.std.specs.Prelude.{ℕ, ◌+◌, ◌-◌, ◌*◌, ◌/◌, ◌==◌, ◌<◌, ◌≤◌, min, max, if◌then◌else◌, List, map}
use Rattle.std.specs.List.{range_with_len}
use Rattle.data_map.specs.declared.check.RawMap.{RawMap}
use Rattle.data_map.specs.declared.ranges.Extent.{Extent}
use Rattle.data_map.specs.Striping.{stripe_of, place_of}

-- stripes first to end hold each byte of a range
abbrev pub HoldRange : RawMap → ℕ → ℕ → ℕ → ℕ → Type 0
HoldRange m off len first end = (l : ℕ) → off ≤ l → l < off + len → (first ≤ stripe_of m l) × (stripe_of m l < end)

-- the part of a range that lies in the unit with number u of the file's data
abbrev pub part_in : RawMap → ℕ → ℕ → ℕ → Extent
part_in m off end u = record {
  position = (place_of m (max off (u * m.unit))).position;
  offset = (place_of m (max off (u * m.unit))).offset;
  length = min end ((u + 1) * m.unit) - max off (u * m.unit);
}

-- how many units a range touches
abbrev pub units_touched : RawMap → ℕ → ℕ → ℕ
units_touched m off len = if len == 0 then 0 else (off + len - 1) / m.unit + 1 - off / m.unit

-- the parts of a range, one for each unit that it touches
abbrev pub extents_of : RawMap → ℕ → ℕ → List Extent
extents_of m off len = map (part_in m off (off + len)) (range_with_len (off / m.unit) (units_touched m off len))

-- positions and offsets of the bytes of a part, and of those of a range
abbrev pub bytes_of_part : Extent → List (ℕ × ℕ)
bytes_of_part e = map (λ o. (e.position, o)) (range_with_len e.offset e.length)

abbrev pub bytes_of_range : RawMap → ℕ → ℕ → List (ℕ × ℕ)
bytes_of_range m off len = map (λ l. ((place_of m l).position, (place_of m l).offset)) (range_with_len off len)
