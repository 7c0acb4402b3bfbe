use Rattle.held_grants.proofs.dues.first_held.Given as goal
use Rattle.held_grants.proofs.DueLists.{Passed}

abbrev pub invariant-loop-i : goal.invariant-loop-i
invariant-loop-i l = Passed l.held l.fn.dues l.i
