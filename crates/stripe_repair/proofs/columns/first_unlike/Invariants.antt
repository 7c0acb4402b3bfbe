use Rattle.std.proofs.Common.{◌≡◌, ◌+◌, drop}
use Rattle.server_rules.specs.Columns.{first_unlike}
use Rattle.stripe_repair.proofs.columns.first_unlike.Given as goal

abbrev pub invariant-loop-i : goal.invariant-loop-i
invariant-loop-i l = first_unlike (drop l.i l.fn.xs) (drop l.i l.fn.ys) + l.i ≡ first_unlike l.fn.xs l.fn.ys
