use Rattle.std.proofs.Common.{◌≡◌, ◌++◌, drop}
use Rattle.client_rules.specs.Grants.{missing_from}
use Rattle.held_grants.proofs.components.missing_of.Given as goal

abbrev pub invariant-loop-k : goal.invariant-loop-k
invariant-loop-k l = l.missing ++ missing_from (drop l.k l.fn.components) l.k ≡ missing_from l.fn.components 0
