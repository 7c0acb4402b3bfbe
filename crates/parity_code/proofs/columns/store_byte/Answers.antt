use Rattle.std.proofs.Common.{◌+◌, ◌<◌, [], length, arith, ℕ, set}
use Rattle.std.proofs.lemmas.Option.{get_or_from_slice_get}
use Rattle.std.proofs.lemmas.List.{length-set, get_or-set_other}
use Rattle.std.proofs.lemmas.Grind.{get_or-set_at}
use Rattle.parity_code.proofs.ColumnLaws.{stored_row}
use Rattle.parity_code.proofs.columns.store_byte.Goals as goal

pub returns : goal.returns
returns c =
    let old = c.get_mut.result.now in
    let same = get_or_from_slice_get c.args.rows.now c.args.row old [] c.get_mut.ensures.value in
    let room : c.args.k < length old = rw same at c.requires.room in
    stored_row c.args.rows.now old (set old c.args.k c.args.byte) c.args.row c.args.k 1 (λ (_ : ℕ). c.args.byte) same
    (length-set old c.args.k c.args.byte)
    (λ k lt. get_or-set_at old c.args.k (c.args.k + k) c.args.byte 0 (omega arith) room)
    (λ k lt. get_or-set_other old c.args.k k c.args.byte 0 (λ e. omega arith))
    (λ k le. get_or-set_other old c.args.k k c.args.byte 0 (λ e. omega arith))
