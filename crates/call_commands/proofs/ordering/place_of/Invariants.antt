use Rattle.std.proofs.Common.{◌≡◌, drop, false}
use Rattle.std.specs.List.{All}
use Rattle.client_rules.specs.Commands.{before}
use Rattle.call_commands.specs.State.{Awaited}
use Rattle.call_commands.proofs.ordering.place_of.Given as goal

abbrev pub invariant-loop-i : goal.invariant-loop-i
invariant-loop-i l = All (λ (b : Awaited). before l.fn.ask b.ask ≡ false) (drop l.i l.fn.falling)
