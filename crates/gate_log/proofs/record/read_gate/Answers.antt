use Rattle.std.proofs.Common.{rules, drop}
use Rattle.gate_log.specs.declared.header.TheConstants.{HEADER_SIZE}
use Rattle.gate_log.proofs.Records.{one_byte}
use Rattle.gate_log.proofs.record.read_gate.Goals as goal

pub returns-clause-byte : goal.returns-clause-byte
returns-clause-byte g c told =
    one_byte c.read_whole.new.buf (drop HEADER_SIZE (g.D.Disk.seen c.args.disk.now)) c.in_ok-count.count _ (search rules)
    (search rules) (search rules) (c.in_ok-count.ensures.bytes told) (search rules)
