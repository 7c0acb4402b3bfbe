use Rattle.std.proofs.Common.{◌≡◌, ◌++◌, length}
use Rattle.std.specs.Prelude.{reverse}
use Rattle.call_commands.proofs.ordering.reversed.Given as goal

abbrev pub invariant-loop-awaited : goal.invariant-loop-awaited
invariant-loop-awaited l = l.commands ++ reverse l.falling.items ≡ reverse l.fn.falling.items

abbrev pub decreases-loop-awaited : goal.decreases-loop-awaited
decreases-loop-awaited l = length l.falling.items
