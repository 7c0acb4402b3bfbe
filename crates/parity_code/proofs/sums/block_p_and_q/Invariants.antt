use Rattle.std.proofs.Common.{ℕ, ◌+◌, ◌<◌, drop}
use Rattle.gf256.specs.Lanes.{HasLanes}
use Rattle.parity_code.specs.Parity.{column, p_of, q_of}
use Rattle.parity_code.proofs.ParityLaws.{AreBytes}
use Rattle.parity_code.proofs.sums.block_p_and_q.Given as goal

abbrev pub invariant-loop-i : goal.invariant-loop-i
invariant-loop-i l = record {
  p : HasLanes l.p (λ k. p_of (drop l.i (column l.units (l.at + k))));
  q : HasLanes l.q (λ k. q_of (drop l.i (column l.units (l.at + k))));
  bytes : (k : ℕ) → k < 64 → AreBytes (drop l.i (column l.units (l.at + k)));
}
