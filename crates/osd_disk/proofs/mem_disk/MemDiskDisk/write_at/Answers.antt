use Rattle.osd_disk.specs.declared.calls.Call.TheVariants.{Write}
use Rattle.osd_disk.proofs.Outcomes.{write_crash, write_part, write_bytes, time_after}
use Rattle.osd_disk.proofs.mem_disk.MemDiskDisk.write_at.Goals as goal

pub returns-clause-bytes : goal.returns-clause-bytes
returns-clause-bytes c = write_bytes c.args.self.now c.write.new.self c.args.at c.args.bytes.now c.write.result c.write.ensures.ok

pub returns-clause-part : goal.returns-clause-part
returns-clause-part c =
    write_part c.args.self.now c.write.new.self c.args.at c.args.bytes.now c.write.result c.write.ensures.ok c.write.ensures.err

pub returns-clause-crash : goal.returns-clause-crash
returns-clause-crash c =
    write_crash c.args.self.now c.write.new.self c.args.at c.args.bytes.now c.write.result c.write.ensures.ok c.write.ensures.err

pub returns-clause-time : goal.returns-clause-time
returns-clause-time c =
    time_after c.args.self.now c.write.new.self
    (Write c.args.at c.args.bytes.now) c.write.result c.write.ensures.ok c.write.ensures.err
