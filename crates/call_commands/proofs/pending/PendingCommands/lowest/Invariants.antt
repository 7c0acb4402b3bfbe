use Rattle.std.proofs.Common.{◌≡◌}
use Rattle.std.specs.Prelude.{None}
use Rattle.call_commands.specs.Pending.{lowest_by}
use Rattle.call_commands.proofs.pending.PendingCommands.lowest.Given as goal

abbrev pub invariant-loop-awaited : goal.invariant-loop-awaited
invariant-loop-awaited l = lowest_by l.least l.awaited-iterator ≡ lowest_by None l.fn.self
