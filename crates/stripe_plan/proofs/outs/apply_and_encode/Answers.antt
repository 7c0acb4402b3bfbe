use Rattle.std.proofs.Common.{◌≡◌, ◌∙◌, ◌+◌, ◌-◌, ◌<◌, ◌++◌, ap, sym, refl, length, arith, inl, inr}
use Rattle.std.proofs.lemmas.Bool.{cases_lt}
use Rattle.std.specs.List.{range_with_len}
use Rattle.data_map.specs.Striping.{group_width}
use Rattle.stripe_plan.specs.Touched.{stripes}
use Rattle.stripe_plan.specs.Plans.{columns_of, span, written, written_stripe}
use Rattle.stripe_plan.proofs.Steps.{one_more, no_more}
use Rattle.stripe_plan.proofs.Answering.{not_lost}
use Rattle.stripe_plan.proofs.WriteLaws.{few_out}
use Rattle.stripe_plan.proofs.WriteFollows.{write_follows}
use Rattle.stripe_plan.proofs.Parities.{stripes_step, stripes_end, encoded}
use Rattle.stripe_plan.proofs.outs.apply_and_encode.Goals as goal

pub push_stripe-requires-clause-few : goal.push_stripe-requires-clause-few
push_stripe-requires-clause-few c =
    let r = span c.args.off (length c.args.bytes.now) in
    let some : 0 < length c.args.bytes.now = elim (cases_lt 0 (length c.args.bytes.now)) [
      | inl some ↦ some
      | inr none ↦ absurd (omega (arith, c.touched_stripes-first.ensures.none (omega (arith, none)), c.loop-stripe-test.true))
    ] in
    let is = c.touched_stripes-first.ensures.some some in
    few_out c.args.map.now r c.args.out.now.components c.loop-stripe.stripe c.known.ensures some
    (not_lost _ _ c.in_ok-check_writable.ensures)
    (omega (arith, is.0, c.loop-stripe.auto.stripe), omega (arith, is.1, c.loop-stripe-test.true))

pub loop-stripe-preserved : goal.loop-stripe-preserved
loop-stripe-preserved c =
    let m = c.args.map.now in
    let r = span c.args.off (length c.args.bytes.now) in
    let got = columns_of m c.args.got.now in
    let out = c.args.out.now.components in
    let s = c.loop-stripe.stripe in
    let e = c.touched_stripes-first.result.1 in
    one_more c.loop-stripe.made (written_stripe m r c.args.bytes.now got out s 0 (group_width m))
    (written m r c.args.bytes.now got out (range_with_len (s + 1) (e - (s + 1)))) _ _ c.in_ok-push_stripe.ensures
    (ap (λ xs. c.loop-stripe.made ++ xs)
    (sym (stripes_step m r c.args.bytes.now got out s e (omega (arith, c.loop-stripe-test.true)))) ∙ c.loop-stripe.invariant)

pub returns-clause-exact : goal.returns-clause-exact
returns-clause-exact c =
    let m = c.args.map.now in
    let r = span c.args.off (length c.args.bytes.now) in
    encoded m r c.args.bytes.now c.args.got.now c.args.out.now.components c.loop-stripe.made
    (not_lost _ _ c.in_ok-check_writable.ensures)
    (no_more _ _ _
    (stripes_end m r c.args.bytes.now
    (columns_of m c.args.got.now) c.args.out.now.components c.loop-stripe.stripe c.touched_stripes-first.result.1
    (omega (arith, c.loop-stripe-test.false))) c.loop-stripe.invariant)

pub returns-clause-follows : goal.returns-clause-follows
returns-clause-follows c =
    let m = c.args.map.now in
    let r = span c.args.off (length c.args.bytes.now) in
    let got = columns_of m c.args.got.now in
    let is : c.loop-stripe.made ≡ written m r c.args.bytes.now got c.args.out.now.components (stripes m r) =
    no_more _ _ _
    (stripes_end m r c.args.bytes.now got c.args.out.now.components c.loop-stripe.stripe c.touched_stripes-first.result.1
    (omega (arith, c.loop-stripe-test.false))) c.loop-stripe.invariant in
    rw is (write_follows m r c.args.bytes.now got c.args.out.now.components c.known.ensures refl
    (not_lost _ _ c.in_ok-check_writable.ensures))
