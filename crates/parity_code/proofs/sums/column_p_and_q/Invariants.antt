use Rattle.std.proofs.Common.{◌≡◌, drop}
use Rattle.parity_code.specs.Parity.{column, p_of, q_of}
use Rattle.parity_code.proofs.ParityLaws.{AreBytes}
use Rattle.parity_code.proofs.sums.column_p_and_q.Given as goal

abbrev pub invariant-loop-i : goal.invariant-loop-i
invariant-loop-i l = record {
  p : l.p ≡ p_of (drop l.i (column l.units l.k));
  q : l.q ≡ q_of (drop l.i (column l.units l.k));
  bytes : AreBytes (drop l.i (column l.units l.k));
}
