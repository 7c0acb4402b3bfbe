use Rattle.std.proofs.Common.{sym, ap, ◌∙◌, ◌++◌, ◌∷◌, ◌+◌, ◌-◌, [], List, ℕ, arith, append_assoc, append-nil}
use Rattle.data_map.specs.Striping.{group_width}
use Rattle.stripe_plan.specs.Lost.{out_from, positions_out}
use Rattle.stripe_plan.proofs.Steps.{out_step, out_end}
use Rattle.call_io.proofs.probing.lost_beside.Goals.{then-is_out+in_ok-push, else-is_out}
use Rattle.call_io.proofs.probing.lost_beside.Goals as goal

pub loop-other-preserved : goal.loop-other-preserved
loop-other-preserved c =
    let m = c.args.map.now in
    let out = c.args.out.now.components in
    let p = c.loop-other.other in
    let e = c.group_start-first.result + group_width c.args.map.now in
    let step = out_step m out p e (omega (arith, c.loop-other-test.true, c.group_width.ensures.value)) in
    elim c.if-is_out.branch [
      | then-is_out+in_ok-push w ↦
          ap (λ (xs : List ℕ). xs ++ out_from m out (p + 1) (e - (p + 1))) (w.lost-is ∙ w.in_ok-push.ensures.ok)
          ∙ append_assoc c.loop-other.lost (p ∷ []) (out_from m out (p + 1) (e - (p + 1)))
          ∙ ap (λ (xs : List ℕ). c.loop-other.lost ++ xs) (sym (rw (sym c.is_out.ensures ∙ w.if-is_out.true) at step))
          ∙ c.loop-other.invariant
      | else-is_out w ↦
          ap (λ (xs : List ℕ). xs ++ out_from m out (p + 1) (e - (p + 1))) w.lost-is
          ∙ ap (λ (xs : List ℕ). c.loop-other.lost ++ xs) (sym (rw (sym c.is_out.ensures ∙ w.if-is_out.false) at step))
          ∙ c.loop-other.invariant
    ]

pub returns : goal.returns
unfolding positions_out
returns c =
    let e = c.group_start-first.result + group_width c.args.map.now in
    sym (append-nil c.loop-other.lost)
    ∙ ap (λ (xs : List ℕ). c.loop-other.lost ++ xs)
    (sym (out_end c.args.map.now c.args.out.now.components c.loop-other.other e
    (omega (arith, c.loop-other-test.false, c.group_width.ensures.value))))
    ∙ c.loop-other.invariant
    ∙ ap (λ (a : ℕ). out_from c.args.map.now c.args.out.now.components a (group_width c.args.map.now))
    c.group_start-first.ensures.value
