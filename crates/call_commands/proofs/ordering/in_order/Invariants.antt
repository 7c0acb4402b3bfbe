use Rattle.std.proofs.Common.{◌≡◌, [], length}
use Rattle.std.specs.Prelude.{reverse}
use Rattle.call_commands.specs.Ordering.{placed_all}
use Rattle.call_commands.proofs.ordering.in_order.Given as goal

abbrev pub invariant-loop-awaited : goal.invariant-loop-awaited
invariant-loop-awaited l = placed_all l.unplaced.items (reverse l.falling.items) ≡ placed_all l.fn.pending []

abbrev pub decreases-loop-awaited : goal.decreases-loop-awaited
decreases-loop-awaited l = length l.unplaced.items
