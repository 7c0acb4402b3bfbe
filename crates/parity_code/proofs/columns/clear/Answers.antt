use Rattle.std.proofs.Common.{◌≡◌, ◌∙◌, ◌+◌, ap, sym, [], arith, ℕ, length, List}
use Rattle.std.proofs.lemmas.Option.{get_or_from_slice_get}
use Rattle.std.proofs.lemmas.List.{get_or_past}
use Rattle.parity_code.proofs.ColumnLaws.{stored_row, refill_same}
use Rattle.parity_code.proofs.columns.clear.Goals as goal

pub returns : goal.returns
returns c =
    let old : List ℕ = c.get_mut.result.now in
    let new : List ℕ = c.zero.new.bytes in
    let same = get_or_from_slice_get c.args.rows.now c.args.row old [] c.get_mut.ensures.value in
    let long : length new ≡ length old = c.zero.ensures.long ∙ ap length c.as_mut_slice.ensures.value in
    rw (refill_same old new long, same) (stored_row c.args.rows.now old new c.args.row 0 (length old) (λ (_ : ℕ). 0) same long
    (λ k lt. c.zero.ensures.zeros (0 + k) (omega arith)) (λ k lt. absurd (omega arith))
    (λ k le. get_or_past new k 0 (omega arith) ∙ sym (get_or_past old k 0 (omega arith))))
