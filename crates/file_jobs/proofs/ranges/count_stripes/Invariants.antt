use Rattle.std.proofs.Common.{◌≡◌, ◌+◌, drop}
use Rattle.server_rules.specs.Grants.{count_stripes}
use Rattle.file_jobs.proofs.ranges.count_stripes.Given as goal

abbrev pub invariant-loop-range : goal.invariant-loop-range
invariant-loop-range l = l.count + count_stripes (drop l.range-index l.fn.ranges) ≡ count_stripes l.fn.ranges
