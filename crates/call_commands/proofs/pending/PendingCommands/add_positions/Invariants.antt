use Rattle.std.proofs.Common.{◌≡◌, ◌++◌}
use Rattle.std.specs.Prelude.{map}
use Rattle.call_commands.specs.State.{Awaited}
use Rattle.call_commands.proofs.pending.PendingCommands.add_positions.Given as goal

abbrev pub invariant-loop-awaited : goal.invariant-loop-awaited
invariant-loop-awaited l =
    l.positions ++ map (λ (a : Awaited). a.ask.position) l.awaited-iterator
    ≡ l.fn.positions ++ map (λ (a : Awaited). a.ask.position) l.fn.self
