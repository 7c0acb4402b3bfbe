use Rattle.std.proofs.Common.{◌∙◌, ◌+◌, sym, arith, refl}
use Rattle.data_map.specs.Striping.{replicas}
use Rattle.stripe_plan.proofs.Steps.{source_from_first, source_step, source_end}
use Rattle.stripe_plan.proofs.lost.source.Goals as goal

pub loop-component-init : goal.loop-component-init
loop-component-init c = (
  omega arith,
  source_from_first c.args.map.now c.args.out.now.components c.args.position c.replica-first.result
      (c.replica-first.ensures.value ∙ omega arith),
)

pub returns-then-not-is_among-clause-value : goal.returns-then-not-is_among-clause-value
returns-then-not-is_among-clause-value c =
    sym (sym c.loop-component.invariant.1
    ∙ source_step c.args.out.now.components c.loop-component.component (c.replica-first.result + replicas c.args.map.now)
    (omega (arith, c.loop-component-test.true, c.replicas.ensures.value))
    ∙ rw (sym c.is_among.ensures ∙ c.if-not-is_among.true) refl)

pub loop-component-preserved : goal.loop-component-preserved
loop-component-preserved c = (
  omega (arith, c.loop-component.invariant.0),
  rw (sym c.is_among.ensures ∙ c.if-not-is_among.false) at
      (sym (source_step c.args.out.now.components c.loop-component.component (c.replica-first.result + replicas c.args.map.now)
      (omega (arith, c.loop-component-test.true, c.replicas.ensures.value))))
      ∙ c.loop-component.invariant.1,
)

pub returns-clause-value : goal.returns-clause-value
returns-clause-value c =
    sym (sym c.loop-component.invariant.1
    ∙ source_end c.args.out.now.components c.loop-component.component (c.replica-first.result + replicas c.args.map.now)
    (omega (arith, c.loop-component-test.false, c.replicas.ensures.value)))
