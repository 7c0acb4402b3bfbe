use Rattle.std.proofs.Common.{◌≡◌, ◌≤◌, drop, length}
use Rattle.server_rules.specs.Grants.{merged}
use Rattle.file_jobs.proofs.ranges.merged.Given as goal

abbrev pub invariant-loop-i : goal.invariant-loop-i
invariant-loop-i l = (l.ranges ≡ merged (drop l.i l.fn.grants)) × (l.i ≤ length l.fn.grants)

abbrev pub decreases-loop-i : goal.decreases-loop-i
decreases-loop-i l = l.i
