use Rattle.core_tests.proofs.Chosen.{Taken}
use Rattle.core_tests.proofs.placing.first_online.Given as goal

abbrev pub invariant-loop-load : goal.invariant-loop-load
invariant-loop-load l = Taken l.chosen l.count l.load-index l.fn.loads
