use Rattle.std.proofs.Common.{◌∙◌, ◌+◌, ◌-◌, ◌++◌, ◌∷◌, [], ap, sym, arith, map}
use Rattle.std.specs.List.{range_with_len}
use Rattle.data_map.specs.Striping.{group_width}
use Rattle.stripe_plan.specs.Words.{known_in}
use Rattle.stripe_plan.specs.Plans.{columns_of}
use Rattle.stripe_plan.proofs.Steps.{range_step, range_end, one_more, no_more}
use Rattle.stripe_plan.proofs.rows.known_rows.Goals as goal

pub loop-unit-preserved : goal.loop-unit-preserved
loop-unit-preserved c =
    let f = known_in c.args.map.now
    (columns_of c.args.map.now c.args.got.now) c.args.out.now.components c.args.stripe c.args.columns in
    let u = c.loop-unit.unit in
    let e = group_width c.args.map.now in
    one_more c.loop-unit.rows (f u ∷ []) (map f (range_with_len (u + 1) (e - (u + 1)))) _ _
    (c.in_ok-push.ensures.ok ∙ ap (λ x. c.loop-unit.rows ++ (x ∷ [])) c.in_ok-row.ensures)
    (ap (λ xs. c.loop-unit.rows ++ xs)
    (sym (range_step f u e (omega (arith, c.loop-unit-test.true, c.group_width-unit-end.ensures.value))))
    ∙ c.loop-unit.invariant)

pub returns : goal.returns
returns c =
    no_more _ _ _
    (range_end _ c.loop-unit.unit (group_width c.args.map.now)
    (omega (arith, c.loop-unit-test.false, c.group_width-unit-end.ensures.value))) c.loop-unit.invariant
