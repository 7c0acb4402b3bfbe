use Rattle.std.proofs.Common.{◌≡◌, ◌+◌, ◌-◌, ◌/◌, ◌≤◌, map}
use Rattle.std.specs.List.{range_with_len}
use Rattle.data_map.specs.Ranges.{part_in}
use Rattle.data_map.proofs.map.DataMap.extents.Given as goal

abbrev pub invariant-loop-number : goal.invariant-loop-number
invariant-loop-number l =
    (l.off / l.unit ≤ l.number) × (l.number ≤ l.number-end) ×
    (l.parts ≡ map (part_in l.self l.off (l.off + l.len)) (range_with_len (l.off / l.unit) (l.number - l.off / l.unit)))
