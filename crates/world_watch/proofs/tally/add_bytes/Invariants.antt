use Rattle.std.proofs.Common.{◌≡◌, drop}
use Rattle.world_watch.specs.Capping.{sum_onto}
use Rattle.world_watch.proofs.tally.add_bytes.Given as goal

abbrev pub invariant-loop-byte : goal.invariant-loop-byte
invariant-loop-byte l = sum_onto l.sum (drop l.byte-index l.fn.bytes) ≡ sum_onto l.fn.sum l.fn.bytes
