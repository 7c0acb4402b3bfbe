use Rattle.std.proofs.Common.{◌∙◌, ◌+◌, ◌++◌, ◌∷◌, [], ap, sym, drop, get_or, arith}
use Rattle.std.proofs.lemmas.List.{drop_more}
use Rattle.data_map.specs.Striping.{parities}
use Rattle.stripe_plan.specs.declared.plan.Interval.{Interval}
use Rattle.stripe_plan.specs.Encoded.{HasParity, parity_column, parity_columns}
use Rattle.stripe_plan.proofs.Steps.{one_more}
use Rattle.stripe_plan.proofs.Parities.{any_default}
use Rattle.stripe_plan.proofs.outs.push_parity.Goals as goal

pub loop-j-preserved : goal.loop-j-preserved
loop-j-preserved c = λ f had.
    let m = c.args.map.now in
    let j = c.loop-j.j in
    let i : Interval = get_or c.args.intervals.now j (record { first = 0; end = 0 }) in
    let there = any_default c.args.parity.now j [] c.index-parity-j.result (omega (arith, c.loop-j-test.true, c.requires.same))
    ∙ sym c.index-parity-j.is in
    let parity : HasParity (parities m) i f c.index-parity-j.result =
    rw there at (had.each j (record { first = 0; end = 0 }) c.loop-j-test.true) in
    one_more c.loop-j.made (parity_column m c.args.stripe c.args.position f c.args.row i ∷ [])
    (parity_columns m c.args.stripe c.args.position f c.args.row (drop (j + 1) c.args.intervals.now)) _ c.push.new.self
    (c.in_ok-push.ensures.ok ∙ ap (λ x. c.loop-j.made ++ (x ∷ [])) (c.in_ok-parity_column.ensures f parity))
    (ap (λ is. c.loop-j.made ++ parity_columns m c.args.stripe c.args.position f c.args.row is)
    (sym (drop_more c.args.intervals.now j (record { first = 0; end = 0 }) c.loop-j-test.true)) ∙ c.loop-j.invariant f had)
