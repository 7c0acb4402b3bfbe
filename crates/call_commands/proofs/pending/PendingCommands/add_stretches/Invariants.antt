use Rattle.std.proofs.Common.{◌≡◌, ◌++◌}
use Rattle.std.specs.Prelude.{map}
use Rattle.client_rules.specs.Io.{awaited_stretch}
use Rattle.call_commands.proofs.pending.PendingCommands.add_stretches.Given as goal

abbrev pub invariant-loop-awaited : goal.invariant-loop-awaited
invariant-loop-awaited l = l.had ++ map awaited_stretch l.awaited-iterator ≡ l.fn.had ++ map awaited_stretch l.fn.self
