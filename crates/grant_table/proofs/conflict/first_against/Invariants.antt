use Rattle.std.proofs.Common.{◌≡◌, drop}
use Rattle.std.specs.Prelude.{find}
use Rattle.server_rules.specs.Grants.{conflicts}
use Rattle.grant_table.proofs.conflict.first_against.Given as goal

abbrev pub invariant-loop-grant : goal.invariant-loop-grant
invariant-loop-grant l = find (conflicts l.fn.asked) (drop l.grant-index l.fn.grants) ≡ find (conflicts l.fn.asked) l.fn.grants
