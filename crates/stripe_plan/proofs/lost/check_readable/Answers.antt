use Rattle.std.proofs.Common.{◌∙◌, sym, arith, refl, inr}
use Rattle.stripe_plan.proofs.Steps.{readable_step, readable_end, found_when, rest_when}
use Rattle.stripe_plan.proofs.lost.check_readable.Goals as goal

pub returns-in-Some : goal.returns-in-Some
returns-in-Some c =
    inr (rw (sym c.loop-stripe.invariant
    ∙ readable_step c.args.map.now c.args.range c.args.out.now.components c.loop-stripe.stripe c.touched_stripes-first.result.1
    (omega (arith, c.loop-stripe-test.true))
    ∙ found_when _ _ c.in-Some.positions _ (sym c.in-Some.is ∙ c.in_ok-positions.ensures)) refl)

pub loop-stripe-preserved : goal.loop-stripe-preserved
loop-stripe-preserved c =
    sym (rest_when _ _ _ (sym c.in_default.is ∙ c.in_ok-positions.ensures))
    ∙ sym (readable_step c.args.map.now c.args.range c.args.out.now.components c.loop-stripe.stripe
    c.touched_stripes-first.result.1 (omega (arith, c.loop-stripe-test.true)))
    ∙ c.loop-stripe.invariant

pub returns : goal.returns
returns c =
    inr (rw (sym c.loop-stripe.invariant
    ∙ readable_end c.args.map.now c.args.range c.args.out.now.components c.loop-stripe.stripe c.touched_stripes-first.result.1
    (omega (arith, c.loop-stripe-test.false))) refl)
