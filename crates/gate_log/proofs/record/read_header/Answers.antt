use Rattle.std.proofs.Common.{rules}
use Rattle.gate_log.specs.declared.header.TheConstants.{HEADER_SIZE}
use Rattle.gate_log.proofs.Records.{whole_read}
use Rattle.gate_log.proofs.record.read_header.Goals as goal

pub returns-clause-bytes : goal.returns-clause-bytes
returns-clause-bytes g c told =
    whole_read c.read_whole.new.buf (g.D.Disk.seen c.args.disk.now) c.in_ok-count.count HEADER_SIZE (search rules) (search rules)
    (search rules) (c.in_ok-count.ensures.bytes told)
