use Rattle.std.proofs.Common.{◌∙◌, ◌+◌, ◌*◌, ◌<◌, ◌++◌, ap, sym, arith}
use Rattle.data_map.specs.Striping.{data_units, stripe_length}
use Rattle.stripe_plan.specs.Touched.{clamped, unit_start}
use Rattle.stripe_plan.specs.Words.{answered_between}
use Rattle.stripe_plan.specs.Plans.{columns_of}
use Rattle.stripe_plan.proofs.Steps.{one_more, no_more}
use Rattle.stripe_plan.proofs.ReadLaws.{hit_is, few_lost}
use Rattle.stripe_plan.proofs.Answering.{between_none, between_split, clamped_mono, unit_next, unit_last, unit_past, touches_is, unit_piece, unit_none}
use Rattle.stripe_plan.proofs.read_answer.append_stripe.Goals as goal
use Rattle.stripe_plan.proofs.read_answer.append_stripe.Goals.{then-own+in_ok-bytes+in_ok-extend_from_slice, else-own}

pub answered_in-requires-clause-few : goal.answered_in-requires-clause-few
answered_in-requires-clause-few c = λ gone.
    few_lost c.args.map.now c.args.range c.args.out.now.components c.args.stripe c.known.ensures c.requires.some
    c.requires.readable c.requires.touched
    (hit_is c.args.map.now c.args.range c.args.out.now.components c.args.stripe 0 (data_units c.args.map.now) c.loop-unit.unit
    (omega arith) (omega (arith, c.loop-unit-test.true, c.data_units-unit-end.ensures.value))
    (touches_is c.args.map.now c.args.range c.args.stripe c.loop-unit.unit c.own_columns-own.result
    c.own_columns-own.ensures.value c.if-own.true) gone)

pub loop-unit-preserved : goal.loop-unit-preserved
loop-unit-preserved c =
    let m = c.args.map.now in
    let r = c.args.range in
    let got = columns_of m c.args.got.now in
    let out = c.args.out.now.components in
    let s = c.args.stripe in
    let u = c.loop-unit.unit in
    let a = clamped r (unit_start m s u) in
    let k = clamped r (unit_start m s (u + 1)) in
    let e = clamped r ((s + 1) * stripe_length m) in
    let low : u < data_units m = omega (arith, c.loop-unit-test.true, c.data_units-unit-end.ensures.value) in
    let split = between_split m got out a k e (clamped_mono r _ _ (omega (arith, unit_next m s u)))
    (clamped_mono r _ _
    (unit_last m s (u + 1) (omega (arith, c.loop-unit-test.true, c.data_units-unit-end.ensures.value)))) in
    elim c.if-own.branch [
      | then-own+in_ok-bytes+in_ok-extend_from_slice w ↦
          one_more c.loop-unit.answer (answered_between m got out a k) (answered_between m got out k e) _ c.if-own.answer
          (w.answer-is ∙ w.in_ok-extend_from_slice.ensures.ok
          ∙ ap (λ xs. c.loop-unit.answer ++ xs)
          (w.as_slice.ensures ∙ w.in_ok-bytes.ensures
          ∙ unit_piece m r got out s u c.own_columns-own.result low c.own_columns-own.ensures.value w.if-own.true))
          (ap (λ xs. c.loop-unit.answer ++ xs) (sym split) ∙ c.loop-unit.invariant)
      | else-own w ↦
          ap (λ xs. xs ++ answered_between m got out k e) w.answer-is
          ∙ ap (λ xs. c.loop-unit.answer ++ xs)
          (sym (split ∙ ap (λ xs. xs ++ answered_between m got out k e)
          (unit_none m r got out s u c.own_columns-own.result c.known.ensures c.own_columns-own.ensures.value
          w.if-own.false)))
          ∙ c.loop-unit.invariant
    ]

pub returns : goal.returns
returns c =
    no_more _ _ _
    (between_none c.args.map.now (columns_of c.args.map.now c.args.got.now) c.args.out.now.components _ _
    (clamped_mono c.args.range _ _
    (unit_past c.args.map.now c.args.stripe c.loop-unit.unit
    (omega (arith, c.loop-unit-test.false, c.data_units-unit-end.ensures.value)))))
    c.loop-unit.invariant
