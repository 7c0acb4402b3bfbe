use Rattle.std.proofs.Common.{◌∙◌, ◌+◌, ◌-◌, ◌*◌, ◌++◌, ◌∷◌, [], ap, sym, arith, append_assoc, append-nil}
use Rattle.data_map.specs.Striping.{group_width}
use Rattle.stripe_plan.specs.Lost.{out_from}
use Rattle.stripe_plan.proofs.Steps.{out_step, out_end}
use Rattle.stripe_plan.proofs.lost.positions_out.Goals as goal
use Rattle.stripe_plan.proofs.lost.positions_out.Goals.{then-is_out+in_ok-push, else-is_out}

pub loop-position-preserved : goal.loop-position-preserved
loop-position-preserved c =
    let m = c.args.map.now in
    let out = c.args.out.now.components in
    let p = c.loop-position.position in
    let e = c.group.result * c.group_width.result + group_width c.args.map.now in
    let step = out_step m out p e (omega (arith, c.loop-position-test.true, c.group_width-2.ensures.value)) in
    elim c.if-is_out.branch [
      | then-is_out+in_ok-push w ↦
          ap (λ xs. xs ++ out_from m out (p + 1) (e - (p + 1))) (w.lost-is ∙ w.in_ok-push.ensures.ok)
          ∙ append_assoc c.loop-position.lost (p ∷ []) (out_from m out (p + 1) (e - (p + 1)))
          ∙ ap (λ xs. c.loop-position.lost ++ xs) (sym (rw (sym c.is_out.ensures ∙ w.if-is_out.true) at step))
          ∙ c.loop-position.invariant
      | else-is_out w ↦
          ap (λ xs. xs ++ out_from m out (p + 1) (e - (p + 1))) w.lost-is
          ∙ ap (λ xs. c.loop-position.lost ++ xs) (sym (rw (sym c.is_out.ensures ∙ w.if-is_out.false) at step))
          ∙ c.loop-position.invariant
    ]

pub returns : goal.returns
returns c =
    let e = c.group.result * c.group_width.result + group_width c.args.map.now in
    sym (append-nil c.loop-position.lost)
    ∙ ap (λ xs. c.loop-position.lost ++ xs)
    (sym (out_end c.args.map.now c.args.out.now.components c.loop-position.position e
    (omega (arith, c.loop-position-test.false, c.group_width-2.ensures.value))))
    ∙ c.loop-position.invariant
