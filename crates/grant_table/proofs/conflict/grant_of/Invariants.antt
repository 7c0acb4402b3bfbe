use Rattle.std.proofs.Common.{◌≡◌, drop}
use Rattle.server_rules.specs.Grants.{grant_of}
use Rattle.grant_table.proofs.conflict.grant_of.Given as goal

abbrev pub invariant-loop-grant : goal.invariant-loop-grant
invariant-loop-grant l = grant_of (drop l.grant-index l.fn.grants) l.client ≡ grant_of l.fn.grants l.client
