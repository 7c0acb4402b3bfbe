use Rattle.std.proofs.Common.{◌≡◌, ◌++◌, drop}
use Rattle.server_rules.specs.Grants.{against}
use Rattle.server_requests.proofs.grant_lists.against.Given as goal

abbrev pub invariant-loop-grant : goal.invariant-loop-grant
invariant-loop-grant l = l.found ++ against (drop l.grant-index l.fn.grants) l.fn.asked ≡ against l.fn.grants l.fn.asked
