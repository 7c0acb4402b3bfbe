use Rattle.osd_disk.specs.declared.calls.Call.TheVariants.{Idle}
use Rattle.osd_disk.proofs.Outcomes.{idle_seen, idle_crash, time_after}
use Rattle.osd_disk.proofs.mem_disk.MemDisk.note_idle.Goals as goal

pub returns-clause-seen : goal.returns-clause-seen
returns-clause-seen c = idle_seen c.args.self.now c.note.new.self c.note.result c.note.ensures.ok c.note.ensures.err

pub returns-clause-crash : goal.returns-clause-crash
returns-clause-crash c = idle_crash c.args.self.now c.note.new.self c.note.result c.note.ensures.ok c.note.ensures.err

pub returns-clause-time : goal.returns-clause-time
returns-clause-time c = time_after c.args.self.now c.note.new.self Idle c.note.result c.note.ensures.ok c.note.ensures.err
