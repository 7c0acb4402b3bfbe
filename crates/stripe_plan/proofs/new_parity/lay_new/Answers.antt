use Rattle.std.proofs.Common.{◌+◌, ℕ, ap, arith}
use Rattle.stripe_plan.proofs.Encodings.{laid_one}
use Rattle.stripe_plan.proofs.new_parity.lay_new.Goals as goal

pub loop-unit-preserved : goal.loop-unit-preserved
loop-unit-preserved c =
    laid_one c.args.map.now c.args.range c.args.bytes.now c.args.stripe c.args.columns c.loop-unit.unit c.args.rows.now
    c.loop-unit.rows c.lay_row.new.rows (c.unit_start.result + c.args.columns.first) c.loop-unit.invariant
    (omega (arith, c.loop-unit-test.true, c.data_units-unit-end.ensures.value, c.requires.count)) c.requires.even
    (ap (λ (z : ℕ). z + c.args.columns.first) c.unit_start.ensures.value) c.lay_row.ensures
