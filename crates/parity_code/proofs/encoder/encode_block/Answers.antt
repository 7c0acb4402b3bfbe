use Rattle.std.proofs.Common.{◌≡◌, ◌∙◌, ◌+◌, [], ap, sym, get_or, take, arith, ℕ, length}
use Rattle.parity_code.specs.Parity.{column, p_of, q_of}
use Rattle.parity_code.specs.Codeword.{count_of}
use Rattle.parity_code.proofs.ColumnLaws.{same_row, take_column}
use Rattle.parity_code.proofs.CodeLaws.{encoded_p, encoded_both}
use Rattle.parity_code.proofs.encoder.encode_block.Goals as goal

pub store_block-requires-in-PandQ-2-clause-room : goal.store_block-requires-in-PandQ-2-clause-room
store_block-requires-in-PandQ-2-clause-room c =
    let long : c.args.units + 2 ≡ length c.args.rows.now =
    ap (λ code. c.args.units + count_of code) (sym c.in-PandQ.is) ∙ c.requires.units in
    rw (same_row c.args.rows.now c.store_block-in-PandQ.new.rows (c.args.units + 1) [] c.store_block-in-PandQ.ensures.shape)
    (c.requires.room (c.args.units + 1) [] (omega arith))

pub returns-in-Xor : goal.returns-in-Xor
returns-in-Xor c =
    let long : c.args.units + 1 ≡ length c.args.rows.now =
    ap (λ code. c.args.units + count_of code) (sym c.in-Xor.is) ∙ c.requires.units in
    let front : c.split_at.result.0.now ≡ take c.args.units c.args.rows.now =
    c.split_at.ensures.front ∙ ap (take c.args.units) c.as_slice.ensures in
    rw c.in-Xor.is
    (encoded_p c.args.units c.args.at 64 (λ (k : ℕ). get_or c.block_p-p.result k 0) c.args.rows.now c.store_block.new.rows
    (sym long) c.store_block.ensures
    (λ k lt. c.block_p-p.ensures.each k lt ∙ ap (λ rows. p_of (column rows (c.args.at + k))) front
    ∙ ap p_of (take_column c.args.units c.args.rows.now (c.args.at + k))))

pub returns-in-PandQ : goal.returns-in-PandQ
returns-in-PandQ c =
    let long : c.args.units + 2 ≡ length c.args.rows.now =
    ap (λ code. c.args.units + count_of code) (sym c.in-PandQ.is) ∙ c.requires.units in
    let front : c.split_at.result.0.now ≡ take c.args.units c.args.rows.now =
    c.split_at.ensures.front ∙ ap (take c.args.units) c.as_slice.ensures in
    rw c.in-PandQ.is
    (encoded_both c.args.units c.args.at 64 (λ (k : ℕ). get_or c.block_p_and_q.result.0 k 0)
    (λ (k : ℕ). get_or c.block_p_and_q.result.1 k 0) c.args.rows.now c.store_block-in-PandQ.new.rows
    c.store_block-in-PandQ-2.new.rows (sym long)
    c.store_block-in-PandQ.ensures c.store_block-in-PandQ-2.ensures
    (λ k lt. c.block_p_and_q.ensures.p.each k lt ∙ ap (λ rows. p_of (column rows (c.args.at + k))) front
    ∙ ap p_of (take_column c.args.units c.args.rows.now (c.args.at + k)))
    (λ k lt. c.block_p_and_q.ensures.q.each k lt ∙ ap (λ rows. q_of (column rows (c.args.at + k))) front
    ∙ ap q_of (take_column c.args.units c.args.rows.now (c.args.at + k))))
