use Rattle.std.proofs.Common.{suc, ◌≡◌, ◌∙◌, ◌+◌, ◌*◌, sym, arith}
use Rattle.parity_code.specs.Codeword.{width_of}
use Rattle.parity_code.proofs.ColumnLaws.{room_kept, width_at, become_more}
use Rattle.parity_code.proofs.erasures.restore.Goals as goal

pub restore_block-requires-clause-room : goal.restore_block-requires-clause-room
restore_block-requires-clause-room c =
    let width : width_of c.args.rows.now ≡ c.len-width.result =
    width_at c.args.rows.now _ c.get.ensures ∙ sym c.len-width.ensures in
    room_kept c.args.rows.now c.loop-b.rows (64 * c.loop-b.b + 64) c.loop-b.invariant.shape c.requires.rows.even (omega arith)

pub loop-b-preserved : goal.loop-b-preserved
loop-b-preserved c =
    become_more (64 * c.loop-b.b) 64 _ _ c.args.rows.now c.loop-b.rows c.restore_block.new.rows (omega arith) c.loop-b.invariant
    (c.restore_block.ensures c.args.first c.args.second c.new-first_tables.ensures c.new-second_tables.ensures)

pub restore_column-requires-clause-room : goal.restore_column-requires-clause-room
restore_column-requires-clause-room c =
    let width : width_of c.args.rows.now ≡ c.len-width.result =
    width_at c.args.rows.now _ c.get.ensures ∙ sym c.len-width.ensures in
    room_kept c.args.rows.now c.loop-k.rows (suc c.loop-k.k) c.loop-k.invariant.shape c.requires.rows.even (omega arith)

pub loop-k-preserved : goal.loop-k-preserved
loop-k-preserved c =
    become_more c.loop-k.k 1 _ _ c.args.rows.now c.loop-k.rows c.restore_column.new.rows
    (omega arith) c.loop-k.invariant c.restore_column.ensures
