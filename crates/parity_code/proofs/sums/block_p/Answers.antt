use Rattle.std.proofs.Common.{◌+◌, get_or, arith}
use Rattle.parity_code.specs.Parity.{column}
use Rattle.parity_code.proofs.ColumnLaws.{length_column}
use Rattle.parity_code.proofs.ParityLaws.{p_next}
use Rattle.parity_code.proofs.sums.block_p.Goals as goal

pub loop-i-preserved : goal.loop-i-preserved
loop-i-preserved c = record {
  long = c.sum-p.ensures.long;
  each = λ k lt.
      p_next (column c.args.units.now (c.args.at + k)) c.loop-i.i (get_or c.block_of-unit.result k 0) (get_or c.loop-i.p k 0)
      (get_or c.sum-p.result k 0) (omega arith)
      (omega (arith, length_column c.args.units.now (c.args.at + k))) (c.block_of-unit.ensures.lanes.each k lt)
      (c.loop-i.invariant.each k lt) (c.sum-p.ensures.each k lt);
}
