use Rattle.std.proofs.Common.{◌∙◌, ◌+◌, [], ap, get_or, ℕ}
use Rattle.parity_code.specs.Parity.{column}
use Rattle.parity_code.specs.Syndromes.{p_syndrome, q_syndrome}
use Rattle.parity_code.specs.Repairs.{repaired_column}
use Rattle.parity_code.proofs.ColumnLaws.{same_row, become_two}
use Rattle.parity_code.proofs.RestoreLaws.{both_repaired}
use Rattle.parity_code.proofs.erasures.restore_block.Goals as goal

pub store_block-requires-2-clause-room : goal.store_block-requires-2-clause-room
store_block-requires-2-clause-room c =
    rw (same_row c.args.rows.now c.store_block.new.rows c.args.second.now.row [] c.store_block.ensures.shape)
    (c.requires.room c.args.second.now.row [] c.requires.second)

pub returns : goal.returns
returns c = λ r s first second.
    become_two c.args.first.now.row c.args.second.now.row c.args.at 64 (λ (k : ℕ). get_or c.block.result k 0)
    (λ (k : ℕ). get_or c.block-2.result k 0) (repaired_column c.args.units r s)
    c.args.rows.now c.store_block.new.rows c.store_block-2.new.rows c.store_block.ensures c.store_block-2.ensures (λ k lt.
    both_repaired c.args.units c.args.first.now.row c.args.second.now.row r s (column c.args.rows.now (c.args.at + k))
    (get_or c.block.result k 0) (get_or c.block-2.result k 0)
    (get_or c.block_syndromes.result.0 k 0) (get_or c.block_syndromes.result.1 k 0) first.row second.row
    ((c.block.ensures r first).each k lt) ((c.block-2.ensures s second).each k lt)
    (c.block_syndromes.ensures.p.each k lt
    ∙ ap (λ rows. p_syndrome c.args.units (column rows (c.args.at + k))) c.as_slice.ensures)
    (c.block_syndromes.ensures.q.each k lt
    ∙ ap (λ rows. q_syndrome c.args.units (column rows (c.args.at + k))) c.as_slice.ensures))
