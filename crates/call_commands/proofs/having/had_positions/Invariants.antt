use Rattle.std.proofs.Common.{◌≡◌, ◌++◌, drop}
use Rattle.std.specs.Prelude.{map}
use Rattle.call_commands.specs.State.{Column}
use Rattle.call_commands.proofs.having.had_positions.Given as goal

abbrev pub invariant-loop-column : goal.invariant-loop-column
invariant-loop-column l =
    l.positions ++ map (λ (c : Column). c.position) (drop l.column-index l.fn.got) ≡ map (λ (c : Column). c.position) l.fn.got
