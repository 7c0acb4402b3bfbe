use Rattle.stripe_plan.specs.Plans.{columns_of}
use Rattle.stripe_plan.proofs.Exchanges.{Delta}
use Rattle.stripe_plan.proofs.parity_change.changed_parity.Given as goal

abbrev pub invariant-loop-unit : goal.invariant-loop-unit
invariant-loop-unit l =
    Delta l.fn.write.map.now l.fn.write.range l.fn.write.bytes.now
    (columns_of l.fn.write.map.now l.fn.write.got.now) l.fn.stripe l.fn.columns l.unit l.p l.q
