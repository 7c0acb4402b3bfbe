use Rattle.std.proofs.Common.{◌≡◌, take, Some}
use Rattle.osd_bytes.specs.Records.{split}
use Rattle.port_loop.proofs.session.read_bytes.Given as goal

abbrev pub invariant-loop-i : goal.invariant-loop-i
invariant-loop-i l = split l.initial.stream (take l.i l.piece) ≡ record { records = l.records; begun = Some l.stream }
