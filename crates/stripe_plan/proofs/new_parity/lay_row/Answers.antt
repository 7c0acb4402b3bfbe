use Rattle.std.proofs.Common.{◌≡◌, ◌∙◌, sym, ℕ, List, [], length, get_or, arith, ◌+◌}
use Rattle.std.proofs.lemmas.Option.{get_or_from_slice_get}
use Rattle.std.proofs.lemmas.List.{get_or_past}
use Rattle.parity_code.proofs.ColumnLaws.{stored_row, refill_same}
use Rattle.stripe_plan.specs.Words.{laid_at}
use Rattle.stripe_plan.proofs.new_parity.lay_row.Goals as goal

pub returns : goal.returns
returns c =
    let old : List ℕ = c.get_mut.result.now in
    let new : List ℕ = c.lay.new.buffer in
    let same = get_or_from_slice_get c.args.rows.now c.args.row old [] c.get_mut.ensures.value in
    let laid = rw c.as_mut_slice.ensures.value at c.lay.ensures in
    rw (refill_same old new laid.long, same)
    (stored_row c.args.rows.now old new c.args.row 0 (length old)
    (λ (k : ℕ). laid_at c.args.from c.args.bytes.now (c.args.offset + k) (get_or old k 0)) same laid.long
    (λ k lt. let z : 0 + k ≡ k = omega arith in
    rw z (laid.each k lt)) (λ k lt. absurd (omega (arith, lt)))
    (λ k le. get_or_past new k 0 (omega (arith, le, laid.long)) ∙ sym (get_or_past old k 0 (omega (arith, le)))))
