use Rattle.stripe_plan.specs.Encoded.{NewLaid}
use Rattle.stripe_plan.proofs.new_parity.lay_new.Given as goal

abbrev pub invariant-loop-unit : goal.invariant-loop-unit
invariant-loop-unit l = NewLaid l.fn.map l.fn.range l.fn.bytes l.fn.stripe l.fn.columns l.unit l.fn.rows l.rows
