use Rattle.std.proofs.Common.{◌-◌}
use Rattle.layout_types.proofs.ListLoops.{ReadSoFar, FitSoFar}
use Rattle.server_entries.proofs.lists.read_members.Given as goal

abbrev pub invariant-loop : goal.invariant-loop
invariant-loop g l =
    ReadSoFar g.T.Part.reading l.list (l.count - l.counter) l.reader l.count l.fn.reader
    × FitSoFar g.T.Part.fits l.list (l.count - l.counter) l.count
