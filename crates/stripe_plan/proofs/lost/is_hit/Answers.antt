use Rattle.std.proofs.Common.{◌∙◌, sym, arith, refl}
use Rattle.data_map.specs.Striping.{data_units}
use Rattle.stripe_plan.proofs.Steps.{hit_step, hit_end}
use Rattle.stripe_plan.proofs.lost.is_hit.Goals as goal

pub returns-then-hits_unit : goal.returns-then-hits_unit
returns-then-hits_unit c =
    sym (sym c.loop-unit.invariant
    ∙ hit_step c.args.map.now c.args.range c.args.out.now.components c.args.stripe c.loop-unit.unit (data_units c.args.map.now)
    (omega (arith, c.loop-unit-test.true, c.data_units-unit-end.ensures.value))
    ∙ rw (sym c.hits_unit.ensures ∙ c.if-hits_unit.true) refl)

pub loop-unit-preserved : goal.loop-unit-preserved
loop-unit-preserved c =
    rw (sym c.hits_unit.ensures ∙ c.if-hits_unit.false) at
    (sym (hit_step c.args.map.now c.args.range c.args.out.now.components c.args.stripe c.loop-unit.unit
    (data_units c.args.map.now) (omega (arith, c.loop-unit-test.true, c.data_units-unit-end.ensures.value))))
    ∙ c.loop-unit.invariant

pub returns : goal.returns
returns c =
    sym (sym c.loop-unit.invariant
    ∙ hit_end c.args.map.now c.args.range c.args.out.now.components c.args.stripe c.loop-unit.unit (data_units c.args.map.now)
    (omega (arith, c.loop-unit-test.false, c.data_units-unit-end.ensures.value)))
