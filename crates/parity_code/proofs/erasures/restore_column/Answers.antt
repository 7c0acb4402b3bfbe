use Rattle.std.proofs.Common.{[]}
use Rattle.parity_code.proofs.ColumnLaws.{same_row}
use Rattle.parity_code.proofs.erasures.restore_column.Goals as goal

pub store_byte-requires-2-clause-room : goal.store_byte-requires-2-clause-room
store_byte-requires-2-clause-room c =
    rw (same_row c.args.rows.now c.store_byte.new.rows c.args.second.row [] c.store_byte.ensures.shape)
    (c.requires.room c.args.second.row [] c.requires.second)
