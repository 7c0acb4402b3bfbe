use Rattle.std.proofs.Common.{◌≡◌, ◌++◌, drop}
use Rattle.std.specs.List.{AllByRecursion, flat_map}
use Rattle.layout_ops.specs.Spelling.{segment_item, SegmentFits, SegmentWritable}
use Rattle.layout_ops.proofs.results.put_segments.Given as goal

-- what is still written makes the whole
abbrev pub invariant-loop-segment : goal.invariant-loop-segment
invariant-loop-segment l =
    (l.writer ++ flat_map segment_item (drop l.segment-index l.layouts) ≡ l.fn.writer ++ flat_map segment_item l.layouts)
    × (AllByRecursion SegmentFits (drop l.segment-index l.layouts) → AllByRecursion SegmentFits l.layouts)
    × AllByRecursion SegmentWritable (drop l.segment-index l.layouts)
