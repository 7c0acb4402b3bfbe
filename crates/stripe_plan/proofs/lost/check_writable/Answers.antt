use Rattle.std.proofs.Common.{◌≡◌, ◌∙◌, ◌<◌, ◌≤◌, false, sym, ap, arith, refl, inr}
use Rattle.data_map.specs.Striping.{groups}
use Rattle.stripe_plan.specs.Lost.{is_short, turn_of, unwritable}
use Rattle.stripe_plan.proofs.Steps.{writable_step, writable_end, found_when}
use Rattle.stripe_plan.proofs.Turns.{none_when, seen_more, skip_turn, all_seen}
use Rattle.stripe_plan.proofs.lost.check_writable.Goals as goal

pub loop-init : goal.loop-init
loop-init c = (
  ap (unwritable c.args.map.now c.args.out.now.components) (sym c.touched_stripes-first.ensures.value),
  λ lt. omega arith,
  λ k lt s e. absurd (omega (arith, lt)),
)

pub returns-then-stripe-end : goal.returns-then-stripe-end
returns-then-stripe-end c =
    inr (rw (sym c.loop.invariant.0
    ∙ writable_end c.args.map.now c.args.out.now.components c.loop.stripe c.touched_stripes-first.result.1
    (omega (arith, c.if-stripe-end.true))) refl)

pub returns-in-Some : goal.returns-in-Some
returns-in-Some c =
    inr (rw (sym c.loop.invariant.0
    ∙ writable_step c.args.map.now c.args.out.now.components c.loop.stripe c.touched_stripes-first.result.1
    (omega (arith, c.if-stripe-end.false))
    ∙ found_when _ _ c.in-Some.positions _ (sym c.in-Some.is ∙ c.in_ok-positions.ensures)) refl)

pub loop-preserved : goal.loop-preserved
loop-preserved c =
    let m = c.args.map.now in
    let out = c.args.out.now.components in
    let s = c.loop.stripe in
    let t = turn_of m c.touched_stripes-first.result.0 in
    let next = c.next_turn-stripe.ensures in
    let fine : is_short m out s ≡ false = none_when _ _ (sym c.in_default.is ∙ c.in_ok-positions.ensures) in
    let turn = c.loop.invariant.1 (omega (arith, c.if-stripe-end.false)) in (
      sym (skip_turn m out s c.next_turn-stripe.result c.touched_stripes-first.result.1 next.above.0 next.above.1 fine next.same)
          ∙ c.loop.invariant.0,
      λ lt. omega (arith, next.turn lt, turn),
      seen_more m out t c.loop.counter s c.loop.invariant.2 turn fine,
    )

pub returns : goal.returns
returns c =
    let m = c.args.map.now in
    let out = c.args.out.now.components in
    let some : 0 < groups m = omega (arith, c.groups-groups.ensures.bound.0, c.groups-groups.ensures.value) in
    let whole : groups m ≤ c.loop.counter = omega (arith, c.loop-test.false, c.groups-groups.ensures.value) in
    inr (rw (sym c.loop.invariant.0
    ∙ all_seen m out
    (turn_of m c.touched_stripes-first.result.0) c.loop.counter c.loop.stripe c.touched_stripes-first.result.1 c.known.ensures
    some whole c.loop.invariant.1 c.loop.invariant.2) refl)
