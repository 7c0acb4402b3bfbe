use Rattle.std.proofs.Common.{◌≡◌, drop}
use Rattle.server_rules.specs.Columns.{end_unlike}
use Rattle.stripe_repair.proofs.columns.end_unlike.Given as goal

abbrev pub invariant-loop-i : goal.invariant-loop-i
invariant-loop-i l = end_unlike (drop l.i l.fn.xs) (drop l.i l.fn.ys) l.i l.end ≡ end_unlike l.fn.xs l.fn.ys 0 0
