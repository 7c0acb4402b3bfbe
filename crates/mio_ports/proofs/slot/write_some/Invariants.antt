use Rattle.std.proofs.Common.{◌≤◌, length}
use Rattle.mio_ports.proofs.slot.write_some.Given as goal

-- no more was written than there is
abbrev pub invariant-loop : goal.invariant-loop
invariant-loop g l = l.count ≤ length l.bytes
