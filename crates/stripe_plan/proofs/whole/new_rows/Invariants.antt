use Rattle.stripe_plan.specs.Encoded.{NewRows}
use Rattle.stripe_plan.proofs.whole.new_rows.Given as goal

abbrev pub invariant-loop-unit : goal.invariant-loop-unit
invariant-loop-unit l = NewRows l.fn.map l.fn.range l.fn.bytes l.fn.stripe l.unit l.rows
