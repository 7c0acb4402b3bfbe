use Rattle.osd_disk.specs.Medium.{first_or}
use Rattle.osd_disk.proofs.Media.{stays_done}
use Rattle.osd_disk.proofs.mem_disk.MemDisk.note.Goals as goal

pub invariant_of-self-2 : goal.invariant_of-self-2
invariant_of-self-2 c =
    stays_done c.self.inside.calls c.push.new.self c.args.call c.self.inside.bytes
    (first_or c.self.inside.bytes c.self.inside.first) c.requires c.self.invariant c.in_ok-push.ensures.ok
