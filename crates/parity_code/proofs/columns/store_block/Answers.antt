use Rattle.std.proofs.Common.{[], get_or, ℕ}
use Rattle.std.proofs.lemmas.Option.{get_or_from_slice_get}
use Rattle.parity_code.proofs.ColumnLaws.{stored_row, refill_same}
use Rattle.parity_code.proofs.columns.store_block.Goals as goal

pub returns : goal.returns
returns c =
    let same = get_or_from_slice_get c.args.rows.now c.args.row c.get_mut.result.now [] c.get_mut.ensures.value in
    let stored = rw c.as_mut_slice.ensures.value at c.store.ensures in
    rw (refill_same c.get_mut.result.now c.store.new.s stored.long)
    (stored_row c.args.rows.now c.get_mut.result.now c.store.new.s c.args.row c.args.at 64
    (λ (k : ℕ). get_or c.args.block k 0) same stored.long stored.inside stored.below stored.above)
