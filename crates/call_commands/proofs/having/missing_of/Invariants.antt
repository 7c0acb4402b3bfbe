use Rattle.std.proofs.Common.{◌≡◌, ◌++◌, drop}
use Rattle.client_rules.specs.Grants.{missing_from}
use Rattle.call_commands.proofs.having.missing_of.Given as goal

abbrev pub invariant-loop-listed : goal.invariant-loop-listed
invariant-loop-listed l =
    l.missing ++ missing_from (drop l.listed-index l.fn.held.components) l.component ≡ missing_from l.fn.held.components 0
