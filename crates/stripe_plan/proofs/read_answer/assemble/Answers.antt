use Rattle.std.proofs.Common.{◌≡◌, ◌∙◌, ◌+◌, ◌*◌, ◌++◌, ap, sym, arith}
use Rattle.data_map.specs.Striping.{stripe_length}
use Rattle.stripe_plan.specs.Touched.{clamped}
use Rattle.stripe_plan.specs.Words.{answered_between, answered}
use Rattle.stripe_plan.specs.Plans.{columns_of, span}
use Rattle.stripe_plan.proofs.Steps.{one_more, no_more}
use Rattle.stripe_plan.proofs.ReadLaws.{read_follows}
use Rattle.stripe_plan.proofs.Answering.{between_none, between_split, clamped_mono, clamp_first, clamp_last, all_answered, not_lost, assembled}
use Rattle.stripe_plan.proofs.read_answer.assemble.Goals as goal

pub loop-stripe-init : goal.loop-stripe-init
loop-stripe-init c =
    rw (
      c.new-answer.ensures,
      clamp_first c.args.map.now (span c.args.off c.args.len) c.touched_stripes-first.result.0
          (λ some. (c.touched_stripes-first.ensures.some some).0),
    )
    (all_answered c.args.map.now (span c.args.off c.args.len)
    (columns_of c.args.map.now c.args.got.now) c.args.out.now.components)

pub loop-stripe-preserved : goal.loop-stripe-preserved
loop-stripe-preserved c =
    let m = c.args.map.now in
    let r = span c.args.off c.args.len in
    let got = columns_of m c.args.got.now in
    let out = c.args.out.now.components in
    let s = c.loop-stripe.stripe in
    let a = clamped r (s * stripe_length m) in
    let k = clamped r ((s + 1) * stripe_length m) in
    let next : (s + 1) * stripe_length m ≡ s * stripe_length m + stripe_length m = omega arith in
    let split = between_split m got out a k (c.args.off + c.args.len) (clamped_mono r _ _ (omega (arith, next))) (omega arith) in
    one_more c.loop-stripe.answer (answered_between m got out a k)
    (answered_between m got out k (c.args.off + c.args.len)) _ _ c.in_ok-append_stripe.ensures
    (ap (λ xs. c.loop-stripe.answer ++ xs) (sym split) ∙ c.loop-stripe.invariant)

pub returns-clause-exact : goal.returns-clause-exact
returns-clause-exact c =
    let m = c.args.map.now in
    let r = span c.args.off c.args.len in
    let last = clamp_last m r c.touched_stripes-first.result.1 c.loop-stripe.stripe c.known.ensures
    (λ some. (c.touched_stripes-first.ensures.some some).1) (omega (arith, c.loop-stripe-test.false)) in
    assembled m r c.args.got.now c.args.out.now.components c.loop-stripe.answer (not_lost _ _ c.in_ok-check_readable.ensures)
    (no_more _ _ _
    (between_none m (columns_of m c.args.got.now) c.args.out.now.components
    (clamped r (c.loop-stripe.stripe * stripe_length m)) (c.args.off + c.args.len) (omega (arith, last)))
    c.loop-stripe.invariant)

pub returns-clause-follows : goal.returns-clause-follows
returns-clause-follows c =
    let m = c.args.map.now in
    let r = span c.args.off c.args.len in
    let last = clamp_last m r c.touched_stripes-first.result.1 c.loop-stripe.stripe c.known.ensures
    (λ some. (c.touched_stripes-first.ensures.some some).1) (omega (arith, c.loop-stripe-test.false)) in
    let is : c.loop-stripe.answer ≡ answered m r (columns_of m c.args.got.now) c.args.out.now.components =
    no_more _ _ _
    (between_none m (columns_of m c.args.got.now) c.args.out.now.components
    (clamped r (c.loop-stripe.stripe * stripe_length m)) (c.args.off + c.args.len) (omega (arith, last)))
    c.loop-stripe.invariant in
    rw is (read_follows m r (columns_of m c.args.got.now) c.args.out.now.components c.known.ensures
    (not_lost _ _ c.in_ok-check_readable.ensures))
