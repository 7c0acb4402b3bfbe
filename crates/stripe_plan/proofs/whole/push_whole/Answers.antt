use Rattle.std.proofs.Common.{◌≡◌, ◌∙◌, ℕ, [], ◌+◌, ◌-◌, ◌<◌, ◌++◌, length, ap, sym, arith}
use Rattle.std.proofs.lemmas.List.{length-set}
use Rattle.data_map.specs.Striping.{group_width}
use Rattle.data_map.specs.Inverse.{unit_in}
use Rattle.data_map.proofs.Striping.{unit_below}
use Rattle.stripe_plan.specs.Encoded.{all_columns, words_in}
use Rattle.stripe_plan.specs.Plans.{written_place, written_stripe}
use Rattle.stripe_plan.proofs.Steps.{one_more, no_more}
use Rattle.stripe_plan.proofs.Parities.{written_step, written_end}
use Rattle.stripe_plan.proofs.Wholes.{taken_one, whole_place}
use Rattle.stripe_plan.proofs.whole.push_whole.Goals as goal

pub loop-place-init : goal.loop-place-init
loop-place-init c =
    let m = c.args.map.now in
    let count = (c.in_ok-rows.ensures [] []).count in
    let all : group_width m - 0 ≡ group_width m = omega arith in (
      count,
      λ got. (
        ap (λ (n : ℕ). c.args.made.now
            ++ written_stripe m c.args.range c.args.bytes.now got c.args.out.now.components c.args.stripe 0 n) all,
        λ j le lt. (c.in_ok-rows.ensures got c.args.out.now.components).each (unit_in m c.args.stripe j)
            (unit_below m c.args.stripe j lt),
      ),
    )

pub loop-place-preserved : goal.loop-place-preserved
loop-place-preserved c =
    let m = c.args.map.now in
    let out = c.args.out.now.components in
    let s = c.args.stripe in
    let i = c.loop-place.place in
    let e = group_width m in
    let lt : i < e = omega (arith, c.loop-place-test.true, c.group_width-place-end.ensures.value) in
    let count : length c.push_row.new.rows ≡ e =
    ap length c.in_ok-push_row.ensures.rest ∙ length-set c.loop-place.rows (unit_in m s i) [] ∙ c.loop-place.invariant.0 in (
      count,
      λ got.
          let had = c.loop-place.invariant.1 got in
          let place = whole_place m c.args.range c.args.bytes.now got out s i _ c.known.ensures c.requires.all
          (had.1 i (omega arith) lt) in (
            one_more c.loop-place.made (written_place m c.args.range c.args.bytes.now got out s i)
                (written_stripe m c.args.range c.args.bytes.now got out s (i + 1) (e - (i + 1))) _ c.push_row.new.made
                (c.in_ok-push_row.ensures.made ∙ ap (λ xs. c.loop-place.made ++ xs) place)
                (ap (λ xs. c.loop-place.made ++ xs) (sym (written_step m c.args.range c.args.bytes.now got out s i e lt))
                ∙ had.0),
            rw c.in_ok-push_row.ensures.rest
                (taken_one m s i
                (λ (u : ℕ). words_in m c.args.range c.args.bytes.now got out s u (all_columns m)) c.loop-place.rows lt had.1),
          ),
    )

pub returns : goal.returns
returns c = λ got.
    no_more _ _ _
    (written_end c.args.map.now c.args.range c.args.bytes.now got c.args.out.now.components c.args.stripe c.loop-place.place
    (group_width c.args.map.now) (omega (arith, c.loop-place-test.false, c.group_width-place-end.ensures.value)))
    (c.loop-place.invariant.1 got).0
