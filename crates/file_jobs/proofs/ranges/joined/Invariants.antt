use Rattle.std.proofs.Common.{◌≡◌, ◌++◌, drop}
use Rattle.server_rules.specs.Grants.{joined}
use Rattle.file_jobs.proofs.ranges.joined.Given as goal

abbrev pub invariant-loop-i : goal.invariant-loop-i
invariant-loop-i l = l.all ++ joined l.range (drop l.i l.fn.ranges) ≡ joined l.fn.range l.fn.ranges
