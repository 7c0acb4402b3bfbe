use Rattle.std.proofs.Common.{◌≡◌, ◌++◌, drop}
use Rattle.std.specs.Ordering.{nat_cmp}
use Rattle.std.specs.BTreeMap.{get}
use Rattle.node_loop.specs.Nodes.{way_in}
use Rattle.node_loop.specs.Points.{due_of}
use Rattle.node_loop.proofs.resending.due_of.Given as goal

abbrev pub invariant-loop-i : goal.invariant-loop-i
invariant-loop-i l =
    l.due ++ due_of (get nat_cmp l.board.table) (way_in l.board.ways) (drop l.i l.messages)
    ≡ due_of (get nat_cmp l.board.table) (way_in l.board.ways) l.messages
