use Rattle.std.proofs.Common.{◌≡◌, drop}
use Rattle.server_rules.specs.Grants.{against, any_expired}
use Rattle.server_requests.proofs.grant_lists.any_expired.Given as goal

abbrev pub invariant-loop-grant : goal.invariant-loop-grant
invariant-loop-grant l =
    any_expired l.now (against (drop l.grant-index l.fn.grants) l.fn.asked) ≡ any_expired l.now (against l.fn.grants l.fn.asked)
