use Rattle.std.proofs.Common.{◌≡◌}
use Rattle.std.specs.Prelude.{None}
use Rattle.call_commands.specs.Pending.{first_by}
use Rattle.call_commands.proofs.pending.PendingCommands.first_to.Given as goal

abbrev pub invariant-loop-awaited : goal.invariant-loop-awaited
invariant-loop-awaited l = first_by l.first l.component l.awaited-iterator ≡ first_by None l.component l.fn.self
