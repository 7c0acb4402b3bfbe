use Rattle.osd_disk.specs.declared.calls.Call.TheVariants.{Sync}
use Rattle.osd_disk.proofs.Outcomes.{sync_seen, sync_crash, sync_durable, time_after}
use Rattle.osd_disk.proofs.mem_disk.MemDiskDisk.sync.Goals as goal

pub returns-clause-durable : goal.returns-clause-durable
returns-clause-durable c = sync_durable c.args.self.now c.note.new.self c.note.result c.note.ensures.ok

pub returns-clause-seen : goal.returns-clause-seen
returns-clause-seen c = sync_seen c.args.self.now c.note.new.self c.note.result c.note.ensures.ok c.note.ensures.err

pub returns-clause-crash : goal.returns-clause-crash
returns-clause-crash c = sync_crash c.args.self.now c.note.new.self c.note.result c.note.ensures.ok c.note.ensures.err

pub returns-clause-time : goal.returns-clause-time
returns-clause-time c = time_after c.args.self.now c.note.new.self Sync c.note.result c.note.ensures.ok c.note.ensures.err
