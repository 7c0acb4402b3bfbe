use Rattle.std.proofs.Common.{◌≡◌, ◌++◌, drop}
use Rattle.server_rules.specs.Standing.{lose_on}
use Rattle.file_jobs.proofs.components.lose_on.Given as goal

abbrev pub invariant-loop-at : goal.invariant-loop-at
invariant-loop-at l = l.left ++ lose_on l.drive (drop l.at-index l.fn.components) ≡ lose_on l.drive l.fn.components
