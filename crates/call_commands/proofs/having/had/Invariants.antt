use Rattle.std.proofs.Common.{◌≡◌, ◌++◌, drop}
use Rattle.std.specs.Prelude.{map}
use Rattle.client_rules.specs.Io.{got_stretch}
use Rattle.call_commands.proofs.having.had.Given as goal

abbrev pub invariant-loop-column : goal.invariant-loop-column
invariant-loop-column l = l.had ++ map got_stretch (drop l.column-index l.fn.got) ≡ map got_stretch l.fn.got
