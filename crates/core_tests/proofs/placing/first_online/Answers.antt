use Rattle.core_tests.proofs.Chosen.{took}
use Rattle.core_tests.proofs.placing.first_online.Goals as goal

pub loop-load-preserved : goal.loop-load-preserved
loop-load-preserved c =
    took c.loop-load.chosen c.take.new.chosen c.args.count c.loop-load.load-index c.args.loads.now _ c.loop-load-test.true
    c.requires.different c.in_ok-take.ensures c.loop-load.invariant
