use Rattle.std.proofs.Common.{◌≡◌, ◌++◌, drop}
use Rattle.std.specs.Prelude.{false}
use Rattle.client_rules.specs.Commands.{numbered, carrying_none}
use Rattle.call_commands.proofs.commands.read_commands.Given as goal

abbrev pub invariant-loop-ask : goal.invariant-loop-ask
invariant-loop-ask l =
    l.sent ++ numbered l.fn.held false l.count (carrying_none (drop l.ask-index l.fn.asks))
    ≡ numbered l.fn.held false l.fn.held.count (carrying_none l.fn.asks)
