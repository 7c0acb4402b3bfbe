use Rattle.std.proofs.Common.{◌∙◌, ◌++◌, ap, sym, arith}
use Rattle.stripe_plan.proofs.Steps.{stripe_step, stripe_end, one_more, no_more}
use Rattle.stripe_plan.proofs.requests.asks.Goals as goal

pub loop-stripe-preserved : goal.loop-stripe-preserved
loop-stripe-preserved c =
    one_more c.loop-stripe.all _ _ _ _ c.in_ok-push_stripe.ensures
    (ap (λ xs. c.loop-stripe.all ++ xs)
    (sym (stripe_step c.args.aim c.args.map.now c.args.range c.args.out.now.components c.args.had.now c.loop-stripe.stripe
    c.touched_stripes-first.result.1 (omega (arith, c.loop-stripe-test.true))))
    ∙ c.loop-stripe.invariant)

pub returns : goal.returns
returns c =
    no_more _ _ _
    (stripe_end c.args.aim c.args.map.now c.args.range c.args.out.now.components c.args.had.now c.loop-stripe.stripe
    c.touched_stripes-first.result.1 (omega (arith, c.loop-stripe-test.false)))
    c.loop-stripe.invariant
