use Rattle.std.proofs.Common.{◌≡◌, ◌++◌}
use Rattle.call_commands.proofs.pending.PendingCommands.copies.Given as goal

abbrev pub invariant-loop-awaited : goal.invariant-loop-awaited
invariant-loop-awaited l = l.copies.items ++ l.awaited-iterator ≡ l.fn.self
