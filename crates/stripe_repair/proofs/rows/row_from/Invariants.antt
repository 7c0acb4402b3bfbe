use Rattle.std.proofs.Common.{◌≡◌, drop}
use Rattle.server_rules.specs.Columns.{row_from}
use Rattle.stripe_repair.proofs.rows.row_from.Given as goal

abbrev pub invariant-loop-reply : goal.invariant-loop-reply
invariant-loop-reply l = row_from (drop l.reply-index l.fn.heard) l.component l.count ≡ row_from l.fn.heard l.component l.count
