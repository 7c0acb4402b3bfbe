use Rattle.call_commands.specs.Queue.{NoneBefore}
use Rattle.call_commands.proofs.queue.find_from.Given as goal

abbrev pub invariant-loop-i : goal.invariant-loop-i
invariant-loop-i l = NoneBefore l.places l.component l.i
