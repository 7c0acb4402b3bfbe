use Rattle.std.proofs.Common.{refl}
use Rattle.gate_log.specs.Standing.{disk_of}
use Rattle.drive_store.specs.Stores.{header_for}
use Rattle.drive_store.proofs.GatheringLaws.{committed, either_all}
use Rattle.drive_store.proofs.gathering.GatheringDrive.commit.Goals as goal

pub returns-in-Ok-clause-any_moment : goal.returns-in-Ok-clause-any_moment
returns-in-Ok-clause-any_moment g c first l k =
    either_all g.D.Disk.tells g.D.Disk.seen g.D.Disk.may_leave g.D.Disk.moment g.D.Disk.left_since first c.args.self.now l k
    (disk_of c.append_all.new.self)
    (c.append_all.ensures.any_moment (header_for first) k.records l.records l.gathered k.rest)

pub returns-in-Ok-clause-kept : goal.returns-in-Ok-clause-kept
returns-in-Ok-clause-kept g c first l k =
    committed g.D.Disk.tells g.D.Disk.seen g.D.Disk.may_leave g.D.Disk.moment g.D.Disk.left_since first c.args.self.now l k _ refl
    c.clear.ensures (c.in-Ok.ensures.added (header_for first) k.records l.records l.gathered k.rest)

pub returns-in-Err-clause-any_moment : goal.returns-in-Err-clause-any_moment
returns-in-Err-clause-any_moment g c first l k =
    either_all g.D.Disk.tells g.D.Disk.seen g.D.Disk.may_leave g.D.Disk.moment g.D.Disk.left_since first c.args.self.now l k
    (disk_of c.append_all.new.self)
    (c.append_all.ensures.any_moment (header_for first) k.records l.records l.gathered k.rest)
