use Rattle.std.proofs.Common.{◌≡◌, ◌≤◌, length, drop}
use Rattle.gate_log.specs.declared.checksum.TheConstants.{ALL_ONES}
use Rattle.gate_log.specs.Checksum.{after_bytes}
use Rattle.gate_log.proofs.checksum.crc_32.Given as goal

abbrev pub invariant-loop-i : goal.invariant-loop-i
invariant-loop-i l =
    (l.i ≤ length l.bytes) × (after_bytes l.register (drop l.i l.bytes) ≡ after_bytes ALL_ONES l.bytes)
