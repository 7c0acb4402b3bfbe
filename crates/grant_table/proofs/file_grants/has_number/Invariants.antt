use Rattle.std.proofs.Common.{◌≡◌, drop}
use Rattle.std.specs.Prelude.{find}
use Rattle.grant_table.specs.Numbered.{has_number}
use Rattle.grant_table.proofs.file_grants.has_number.Given as goal

abbrev pub invariant-loop-grant : goal.invariant-loop-grant
invariant-loop-grant l = find (has_number l.number) (drop l.grant-index l.fn.grants) ≡ find (has_number l.number) l.fn.grants
