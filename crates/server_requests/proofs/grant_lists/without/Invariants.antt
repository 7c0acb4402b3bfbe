use Rattle.std.proofs.Common.{◌≡◌, ◌++◌, drop}
use Rattle.server_rules.specs.Grants.{without}
use Rattle.server_requests.proofs.grant_lists.without.Given as goal

abbrev pub invariant-loop-grant : goal.invariant-loop-grant
invariant-loop-grant l = l.left ++ without (drop l.grant-index l.fn.grants) l.client ≡ without l.fn.grants l.client
