use Rattle.std.proofs.Common.{◌-◌}
use Rattle.layout_ops.specs.Reading.{segment_in}
use Rattle.layout_ops.proofs.ListLoops.{ReadSoFar}
use Rattle.layout_ops.proofs.results.read_segments.Given as goal

abbrev pub invariant-loop : goal.invariant-loop
invariant-loop l = ReadSoFar segment_in l.layouts (l.count - l.counter) l.reader l.count l.fn.reader
