use Rattle.std.proofs.Common.{suc, ◌≡◌, ◌∙◌, ◌+◌, ◌-◌, ◌*◌, sym, arith}
use Rattle.parity_code.specs.Codeword.{width_of}
use Rattle.parity_code.proofs.ColumnLaws.{room_kept, width_at, become_more}
use Rattle.parity_code.proofs.CodeLaws.{data_kept}
use Rattle.parity_code.proofs.encoder.encode.Goals as goal

pub encode_block-requires-clause-room : goal.encode_block-requires-clause-room
encode_block-requires-clause-room c =
    let width : width_of c.args.rows.now ≡ c.len-width.result =
    width_at c.args.rows.now _ c.get.ensures ∙ sym c.len-width.ensures in
    room_kept c.args.rows.now c.loop-b.rows (64 * c.loop-b.b + 64) c.loop-b.invariant.shape c.requires.even (omega arith)

pub loop-b-preserved : goal.loop-b-preserved
loop-b-preserved c =
    become_more (64 * c.loop-b.b) 64 _ _ c.args.rows.now c.loop-b.rows c.encode_block.new.rows
    (omega arith) c.loop-b.invariant c.encode_block.ensures

pub encode_column-requires-clause-room : goal.encode_column-requires-clause-room
encode_column-requires-clause-room c =
    let width : width_of c.args.rows.now ≡ c.len-width.result =
    width_at c.args.rows.now _ c.get.ensures ∙ sym c.len-width.ensures in
    room_kept c.args.rows.now c.loop-k.rows (suc c.loop-k.k) c.loop-k.invariant.shape c.requires.even (omega arith)

pub loop-k-preserved : goal.loop-k-preserved
loop-k-preserved c =
    become_more c.loop-k.k 1 _ _ c.args.rows.now c.loop-k.rows c.encode_column.new.rows
    (omega arith) c.loop-k.invariant c.encode_column.ensures

pub returns-clause-coded : goal.returns-clause-coded
returns-clause-coded c = λ k lt.
    let width : width_of c.args.rows.now ≡ c.len-width.result =
    width_at c.args.rows.now _ c.get.ensures ∙ sym c.len-width.ensures in
    let same : 0 + k ≡ k = omega arith in
    rw (same, c.len.ensures, c.count.ensures) at (c.loop-k.invariant.inside k (omega arith))

pub returns-clause-kept : goal.returns-clause-kept
returns-clause-kept c =
    λ j lt. data_kept c.args.code (c.len.result - c.count.result) c.loop-k.k c.args.rows.now c.loop-k.rows
    (omega arith) c.loop-k.invariant j (omega arith)
