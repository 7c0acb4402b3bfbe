use Rattle.std.proofs.Common.{◌≡◌, ◌++◌, drop, take}
use Rattle.std.specs.Prelude.{List, ℕ, find}
use Rattle.server_rules.specs.declared.grants.Grant.{Grant}
use Rattle.grant_table.specs.Numbered.{has_number, without_number}
use Rattle.grant_table.proofs.file_grants.take_out.Given as goal

-- the first ones have other numbers
pub record Passed (number index : ℕ) (now old : List Grant) : Type 0 where
  pub found : find (has_number number) (drop index now) ≡ find (has_number number) old
  pub left : take index now ++ without_number number (drop index now) ≡ without_number number old

abbrev pub invariant-loop-i : goal.invariant-loop-i
invariant-loop-i l = Passed l.number l.i l.grants.items l.fn.grants.items
