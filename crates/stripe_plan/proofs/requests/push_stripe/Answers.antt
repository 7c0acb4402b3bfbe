use Rattle.std.proofs.Common.{◌∙◌, ◌++◌, ap, sym, arith}
use Rattle.data_map.specs.Striping.{group_width}
use Rattle.stripe_plan.proofs.Steps.{place_step, place_end, one_more, no_more}
use Rattle.stripe_plan.proofs.requests.push_stripe.Goals as goal

pub loop-place-preserved : goal.loop-place-preserved
loop-place-preserved c =
    one_more c.loop-place.asks _ _ _ _ c.in_ok-push_place.ensures
    (ap (λ xs. c.loop-place.asks ++ xs)
    (sym (place_step c.args.request.now.aim c.args.request.now.map.now c.args.request.now.range
    c.args.request.now.out.now.components c.args.request.now.had.now c.args.stripe c.loop-place.place
    (group_width c.args.request.now.map.now)
    (omega (arith, c.loop-place-test.true, c.group_width-place-end.ensures.value))))
    ∙ c.loop-place.invariant)

pub returns : goal.returns
returns c =
    no_more _ _ _
    (place_end c.args.request.now.aim c.args.request.now.map.now c.args.request.now.range
    c.args.request.now.out.now.components c.args.request.now.had.now c.args.stripe c.loop-place.place
    (group_width c.args.request.now.map.now)
    (omega (arith, c.loop-place-test.false, c.group_width-place-end.ensures.value)))
    c.loop-place.invariant
