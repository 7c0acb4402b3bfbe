use Rattle.std.proofs.Common.{◌≡◌, ◌∙◌, ◌+◌, ◌-◌, ◌<◌, ◌≤◌, ap, get_or, drop, arith, ℕ, length}
use Rattle.std.specs.Prelude.{bit_xor}
use Rattle.parity_code.specs.Parity.{column}
use Rattle.parity_code.proofs.ColumnLaws.{length_column}
use Rattle.parity_code.proofs.ParityLaws.{AreBytes, p_next, q_next, bytes_next, p_last, q_last, bytes_last}
use Rattle.parity_code.proofs.sums.block_p_and_q.Goals as goal

pub loop-i-init : goal.loop-i-init
loop-i-init c =
    let last : (k : ℕ) → length c.args.units.now - 1 + 1 ≡ length (column c.args.units.now (c.args.at + k)) =
    λ k. omega (arith, length_column c.args.units.now (c.args.at + k)) in
    let first = c.block_of-first.ensures in
    record {
      p = record {
        long = first.lanes.long;
        each =
            λ k lt. p_last (column c.args.units.now (c.args.at + k)) (length c.args.units.now - 1)
            (get_or c.block_of-first.result k 0) (last k) (first.lanes.each k lt);
      };
      q = record {
        long = first.lanes.long;
        each =
            λ k lt. q_last (column c.args.units.now (c.args.at + k)) (length c.args.units.now - 1)
            (get_or c.block_of-first.result k 0) (last k) (first.lanes.each k lt) (first.bytes k lt);
      };
      bytes = λ k lt. bytes_last (column c.args.units.now (c.args.at + k)) (length c.args.units.now - 1)
          (get_or c.block_of-first.result k 0) (last k) (first.lanes.each k lt) (first.bytes k lt);
    }

pub loop-i-preserved : goal.loop-i-preserved
loop-i-preserved c =
    let long : (k : ℕ) → c.loop-i.i ≤ length (column c.args.units.now (c.args.at + k)) =
    λ k. omega (arith, length_column c.args.units.now (c.args.at + k)) in
    let unit = c.block_of-unit.ensures.lanes in
    let bytes : (k : ℕ) → k < 64 → AreBytes (drop (c.loop-i.i - 1) (column c.args.units.now (c.args.at + k))) = λ k lt.
    bytes_next (column c.args.units.now (c.args.at + k)) c.loop-i.i (get_or c.block_of-unit.result k 0) (omega arith) (long k)
    (unit.each k lt) (c.block_of-unit.ensures.bytes k lt) (c.loop-i.invariant.bytes k lt) in
    record {
      p = record {
        long = c.sum-p.ensures.long;
        each = λ k lt. p_next (column c.args.units.now (c.args.at + k)) c.loop-i.i (get_or c.block_of-unit.result k 0)
            (get_or c.loop-i.p k 0) (get_or c.sum-p.result k 0) (omega arith) (long k) (unit.each k lt)
            (c.loop-i.invariant.p.each k lt) (c.sum-p.ensures.each k lt);
      };
      q = record {
        long = c.sum-q.ensures.long;
        each = λ k lt. q_next (column c.args.units.now (c.args.at + k)) c.loop-i.i (get_or c.block_of-unit.result k 0)
            (get_or c.loop-i.q k 0) (get_or c.sum-q.result k 0) (omega arith) (long k) (unit.each k lt) (bytes k lt)
            (c.loop-i.invariant.q.each k lt)
            (c.sum-q.ensures.each k lt
            ∙ ap (λ (n : ℕ). bit_xor n (get_or c.block_of-unit.result k 0)) (c.doubled.ensures.each k lt));
      };
      bytes = bytes;
    }
