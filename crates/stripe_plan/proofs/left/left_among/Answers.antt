use Rattle.std.proofs.Common.{◌≡◌, ◌∙◌, ◌+◌, ◌++◌, ◌∷◌, ap, sym, arith, drop, get_or}
use Rattle.stripe_plan.specs.declared.plan.Stretch.{Stretch}
use Rattle.std.specs.Prelude.{flat_map}
use Rattle.std.proofs.lemmas.List.{drop_more}
use Rattle.std.proofs.Math.ListN.{drop_of_length-le}
use Rattle.stripe_plan.specs.Asks.{some_of, cut, without}
use Rattle.stripe_plan.proofs.Lefts.{of_some, some_again, cut_again, cut_out, left_in, all_left}
use Rattle.stripe_plan.proofs.Picking.{no_stretch, chosen, same_without}
use Rattle.stripe_plan.proofs.left.left_among.Goals as goal
use Rattle.stripe_plan.proofs.left.left_among.Goals.{then-stretch-position+in_ok-left, else-stretch-position}

pub loop-number-init : goal.loop-number-init
loop-number-init c =
    let some = chosen c.args.had.now c.args.numbers.now in
    let one = c.in_ok-push_some.ensures ∙ ap (λ xs. xs ++ some_of c.args.interval) c.new-left.ensures in (
      ap (flat_map (without some c.args.position)) one ∙ of_some some c.args.position c.args.interval,
      ap (flat_map some_of) one
          ∙ some_again c.args.interval ∙ sym one,
    )

pub loop-number-preserved : goal.loop-number-preserved
loop-number-preserved c =
    let had = c.args.had.now in
    let ns = c.args.numbers.now in
    let p = c.args.position in
    let k = c.loop-number.number-index in
    let t : Stretch = get_or had (get_or ns k 0) no_stretch in
    let more : chosen had (drop k ns) ≡ t ∷ chosen had (drop (k + 1) ns) =
    ap (chosen had) (drop_more ns k 0 c.loop-number-test.true) in
    elim c.if-stretch-position.branch [
      | then-stretch-position+in_ok-left w ↦
          let now = w.left-is ∙ w.in_ok-left.ensures ∙ ap (flat_map (cut t)) w.as_slice.ensures in (
            ap (flat_map (without (chosen had (drop (k + 1) ns)) p)) now
                ∙ cut_out t (chosen had (drop (k + 1) ns)) p c.loop-number.left w.if-stretch-position.true
                ∙ ap (λ ts. flat_map (without ts p) c.loop-number.left) (sym more)
                ∙ c.loop-number.invariant.0,
            ap (flat_map some_of) now ∙ cut_again t c.loop-number.left ∙ sym now,
          )
      | else-stretch-position w ↦ (
        ap (flat_map (without (chosen had (drop (k + 1) ns)) p)) w.left-is
            ∙ left_in t (chosen had (drop (k + 1) ns)) p c.loop-number.left w.if-stretch-position.false
            ∙ ap (λ ts. flat_map (without ts p) c.loop-number.left) (sym more)
            ∙ c.loop-number.invariant.0,
        ap (flat_map some_of) w.left-is ∙ c.loop-number.invariant.1 ∙ sym w.left-is,
      )
    ]

pub returns : goal.returns
returns c =
    let had = c.args.had.now in
    let ns = c.args.numbers.now in
    let k = c.loop-number.number-index in
    sym c.loop-number.invariant.1
    ∙ sym (all_left (chosen had (drop k ns)) c.args.position c.loop-number.left
    (ap (chosen had) (drop_of_length-le ns (omega (arith, c.loop-number-test.false)))))
    ∙ c.loop-number.invariant.0
    ∙ same_without had c.args.position c.args.interval ns c.requires
