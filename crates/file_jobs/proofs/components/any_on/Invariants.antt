use Rattle.std.proofs.Common.{◌≡◌, drop}
use Rattle.server_rules.specs.Standing.{any_on}
use Rattle.file_jobs.proofs.components.any_on.Given as goal

abbrev pub invariant-loop-at : goal.invariant-loop-at
invariant-loop-at l = any_on l.drive (drop l.at-index l.fn.components) ≡ any_on l.drive l.fn.components
