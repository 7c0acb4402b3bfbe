use Rattle.std.proofs.Common.{◌≡◌, drop}
use Rattle.world_history.specs.Calm.{is_told_taken}
use Rattle.world_calm.proofs.reading.is_told_taken.Given as goal

abbrev pub invariant-loop-line : goal.invariant-loop-line
invariant-loop-line l = is_told_taken (drop l.line-index l.fn.lines) ≡ is_told_taken l.fn.lines
