use Rattle.std.proofs.Common.{◌≡◌, drop}
use Rattle.std.specs.Prelude.{None}
use Rattle.server_rules.specs.Get.{lowest_after}
use Rattle.server_state.proofs.awaited.lowest.Given as goal

abbrev pub invariant-loop-command : goal.invariant-loop-command
invariant-loop-command l = lowest_after l.least (drop l.command-index l.fn.awaited) ≡ lowest_after None l.fn.awaited
