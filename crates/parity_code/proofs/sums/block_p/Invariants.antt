use Rattle.std.proofs.Common.{◌+◌, drop}
use Rattle.gf256.specs.Lanes.{HasLanes}
use Rattle.parity_code.specs.Parity.{column, p_of}
use Rattle.parity_code.proofs.sums.block_p.Given as goal

abbrev pub invariant-loop-i : goal.invariant-loop-i
invariant-loop-i l = HasLanes l.p (λ k. p_of (drop l.i (column l.units (l.at + k))))
