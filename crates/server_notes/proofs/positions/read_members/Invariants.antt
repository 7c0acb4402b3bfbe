use Rattle.std.proofs.Common.{◌-◌}
use Rattle.layout_types.proofs.ListLoops.{ReadSoFar}
use Rattle.layout_types.specs.Grammar.{u32_part}
use Rattle.server_notes.proofs.positions.read_members.Given as goal

abbrev pub invariant-loop : goal.invariant-loop
invariant-loop l = ReadSoFar u32_part l.list (l.count - l.counter) l.reader l.count l.fn.reader
