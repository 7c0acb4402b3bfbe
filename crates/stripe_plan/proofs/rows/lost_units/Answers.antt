use Rattle.std.proofs.Common.{◌∙◌, ◌+◌, ◌-◌, ◌++◌, ◌∷◌, [], ap, sym, arith}
use Rattle.data_map.specs.Striping.{group_width}
use Rattle.stripe_plan.specs.Lost.{is_out}
use Rattle.stripe_plan.specs.Words.{lost_from}
use Rattle.stripe_plan.proofs.Steps.{lost_step, lost_end, one_more, no_more}
use Rattle.stripe_plan.proofs.rows.lost_units.Goals as goal
use Rattle.stripe_plan.proofs.rows.lost_units.Goals.{then-is_out+in_ok-push, else-is_out}

pub loop-unit-preserved : goal.loop-unit-preserved
loop-unit-preserved c =
    let m = c.args.map.now in
    let out = c.args.out.now.components in
    let s = c.args.stripe in
    let u = c.loop-unit.unit in
    let e = group_width m in
    let step = lost_step m out s u e (omega (arith, c.loop-unit-test.true, c.group_width-unit-end.ensures.value)) in
    let is = c.is_out.ensures ∙ ap (is_out m out) c.position.ensures.value in
    elim c.if-is_out.branch [
      | then-is_out+in_ok-push w ↦
          one_more c.loop-unit.lost (u ∷ []) (lost_from m out s (u + 1) (e - (u + 1))) _ c.if-is_out.lost
          (w.lost-is ∙ w.in_ok-push.ensures.ok)
          (ap (λ xs. c.loop-unit.lost ++ xs) (sym (rw (sym is ∙ w.if-is_out.true) at step)) ∙ c.loop-unit.invariant)
      | else-is_out w ↦
          ap (λ xs. xs ++ lost_from m out s (u + 1) (e - (u + 1))) w.lost-is
          ∙ ap (λ xs. c.loop-unit.lost ++ xs) (sym (rw (sym is ∙ w.if-is_out.false) at step)) ∙ c.loop-unit.invariant
    ]

pub returns : goal.returns
returns c =
    no_more _ _ _
    (lost_end c.args.map.now c.args.out.now.components c.args.stripe c.loop-unit.unit (group_width c.args.map.now)
    (omega (arith, c.loop-unit-test.false, c.group_width-unit-end.ensures.value))) c.loop-unit.invariant
