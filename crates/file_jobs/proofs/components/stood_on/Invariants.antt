use Rattle.std.proofs.Common.{◌≡◌, drop}
use Rattle.server_rules.specs.Standing.{stood_on}
use Rattle.file_jobs.proofs.components.stood_on.Given as goal

abbrev pub invariant-loop-at : goal.invariant-loop-at
invariant-loop-at l = stood_on l.drive (drop l.at-index l.fn.components) ≡ stood_on l.drive l.fn.components
