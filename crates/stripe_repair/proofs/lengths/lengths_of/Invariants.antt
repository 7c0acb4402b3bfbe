use Rattle.std.proofs.Common.{◌≡◌, ◌++◌, drop}
use Rattle.server_rules.specs.Audit.{lengths_of}
use Rattle.stripe_repair.proofs.lengths.lengths_of.Given as goal

abbrev pub invariant-loop-reply : goal.invariant-loop-reply
invariant-loop-reply l = l.lengths ++ lengths_of (drop l.reply-index l.fn.heard) ≡ lengths_of l.fn.heard
