use Rattle.std.proofs.Common.{◌+◌, ◌≡◌, ◌<◌, ◌-◌, drop, length, arith}
use Rattle.std.proofs.Math.Seq.{drop-length}
use Rattle.parity_code.proofs.ColumnLaws.{refill_same}
use Rattle.stripe_plan.proofs.Laid.{none_filled, one_filled}
use Rattle.stripe_plan.proofs.Picking.{picked, one_picked, all_picked, picked_below}
use Rattle.stripe_plan.proofs.laid_bytes.laid_columns.Goals as goal

pub loop-i-init : goal.loop-i-init
loop-i-init c =
    rw (drop-length c.args.numbers.now, c.in_ok-bytes.ensures) (none_filled c.args.position c.args.offset c.args.len)

pub loop-i-preserved : goal.loop-i-preserved
loop-i-preserved c =
    let cols = c.args.columns.now in
    let ns = c.args.numbers.now in
    let i = c.loop-i.i in
    let lt : i - 1 < length ns = omega (arith, c.loop-i-test.true, c.loop-i.auto.i) in
    let at = one_picked cols ns i c.index-columns-number.result (omega (arith, c.loop-i-test.true)) lt
    (picked_below cols c.args.position (record { first = c.args.offset; end = c.args.offset + c.args.len }) ns c.requires
    (i - 1) lt) c.index-columns-number.is in
    let laid = rw c.as_mut_slice.ensures.value at c.lay_column.ensures in
    rw (refill_same c.loop-i.bytes c.lay_column.new.buffer laid.long, at)
    (one_filled c.index-columns-number.result
    (picked cols (drop i ns)) c.args.position c.args.offset c.args.len c.loop-i.bytes c.lay_column.new.buffer
    c.loop-i.invariant laid)

pub returns : goal.returns
returns c =
    let first : c.loop-i.i ≡ 0 = omega (arith, c.loop-i-test.false) in
    all_picked c.args.columns.now c.args.position c.args.offset c.args.len c.args.numbers.now c.loop-i.bytes c.requires
    (rw first at c.loop-i.invariant)
