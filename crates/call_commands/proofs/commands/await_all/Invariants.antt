use Rattle.std.proofs.Common.{◌≡◌, ◌++◌, drop}
use Rattle.call_commands.proofs.commands.await_all.Given as goal

abbrev pub invariant-loop-awaited : goal.invariant-loop-awaited
invariant-loop-awaited l = l.pending ++ drop l.awaited-index l.fn.sent ≡ l.fn.pending ++ l.fn.sent
