use Rattle.std.proofs.Common.{sym, ap, ◌∙◌, ◌++◌, ◌∷◌, ◌+◌, ◌-◌, [], List, ℕ, arith, append_assoc, append-nil}
use Rattle.std.specs.List.{range_with_len}
use Rattle.data_map.specs.Striping.{positions}
use Rattle.call_io.proofs.Places.{range_step, range_end}
use Rattle.call_io.proofs.probing.all_positions.Goals as goal

pub loop-position-preserved : goal.loop-position-preserved
loop-position-preserved c =
    let p = c.loop-position.position in
    let e = positions c.args.map.now in
    ap (λ (xs : List ℕ). xs ++ range_with_len (p + 1) (e - (p + 1))) c.in_ok-push.ensures.ok
    ∙ append_assoc c.loop-position.all (p ∷ []) (range_with_len (p + 1) (e - (p + 1)))
    ∙ ap (λ (xs : List ℕ). c.loop-position.all ++ xs)
    (sym (range_step p e (omega (arith, c.loop-position-test.true, c.positions-position-end.ensures.value))))
    ∙ c.loop-position.invariant

pub returns : goal.returns
returns c =
    sym (append-nil c.loop-position.all)
    ∙ ap (λ (xs : List ℕ). c.loop-position.all ++ xs)
    (sym (range_end c.loop-position.position (positions c.args.map.now)
    (omega (arith, c.loop-position-test.false, c.positions-position-end.ensures.value))))
    ∙ c.loop-position.invariant
