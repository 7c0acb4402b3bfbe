use Rattle.std.proofs.Common.{◌∙◌, ◌+◌, ◌-◌, ◌++◌, ap, sym, arith}
use Rattle.data_map.specs.Striping.{group_width}
use Rattle.stripe_plan.specs.Plans.{columns_of, written_place, written_stripe}
use Rattle.stripe_plan.proofs.Steps.{one_more, no_more}
use Rattle.stripe_plan.proofs.Parities.{written_step, written_end}
use Rattle.stripe_plan.proofs.outs.push_part.Goals as goal

pub loop-place-preserved : goal.loop-place-preserved
loop-place-preserved c =
    let m = c.args.write.now.map.now in
    let got = columns_of m c.args.write.now.got.now in
    let out = c.args.write.now.out.now.components in
    let i = c.loop-place.place in
    let e = group_width m in
    one_more c.loop-place.made (written_place m c.args.write.now.range c.args.write.now.bytes.now got out c.args.stripe i)
    (written_stripe m c.args.write.now.range c.args.write.now.bytes.now got out c.args.stripe (i + 1) (e - (i + 1))) _
    c.push_place.new.made
    (c.in_ok-push_place.ensures got (λ some. rw c.as_slice-rows.ensures (c.in_ok-parity.ensures.value some)))
    (ap (λ xs. c.loop-place.made ++ xs)
    (sym (written_step m c.args.write.now.range c.args.write.now.bytes.now got out c.args.stripe i e
    (omega (arith, c.loop-place-test.true, c.group_width-place-end.ensures.value)))) ∙ c.loop-place.invariant)

pub returns : goal.returns
returns c =
    no_more _ _ _
    (written_end c.args.write.now.map.now c.args.write.now.range c.args.write.now.bytes.now
    (columns_of c.args.write.now.map.now c.args.write.now.got.now) c.args.write.now.out.now.components c.args.stripe
    c.loop-place.place (group_width c.args.write.now.map.now)
    (omega (arith, c.loop-place-test.false, c.group_width-place-end.ensures.value)))
    c.loop-place.invariant
