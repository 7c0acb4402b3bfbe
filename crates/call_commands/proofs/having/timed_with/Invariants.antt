use Rattle.std.proofs.Common.{◌≡◌, ◌++◌, drop}
use Rattle.client_rules.specs.Io.{timed_with}
use Rattle.call_commands.proofs.having.timed_with.Given as goal

abbrev pub invariant-loop-i : goal.invariant-loop-i
invariant-loop-i l = l.all ++ timed_with l.fn.one (drop l.i l.fn.timed) ≡ timed_with l.fn.one l.fn.timed
