use Rattle.std.proofs.Common.{◌≡◌, ◌+◌, drop}
use Rattle.layout_server.specs.Adding.{rank_in}
use Rattle.layout_server.proofs.drives.rank_of.Given as goal

abbrev pub invariant-loop-i : goal.invariant-loop-i
invariant-loop-i l = rank_in (drop l.i l.fn.drives) l.number + l.i ≡ rank_in l.fn.drives l.number
