use Rattle.gate_log.specs.Standing.{disk_of}
use Rattle.drive_store.specs.Stores.{header_for}
use Rattle.drive_store.proofs.StoreLaws.{kept_more, weaker, with_or_without}
use Rattle.drive_store.proofs.store.StoredDrive.log_step.Goals as goal

pub returns-in-Ok-clause-any_moment : goal.returns-in-Ok-clause-any_moment
returns-in-Ok-clause-any_moment g c before step kept =
    weaker g.D.Disk.tells g.D.Disk.seen g.D.Disk.may_leave g.D.Disk.moment g.D.Disk.left_since (disk_of c.args.self.now.log)
    (disk_of c.append.new.self) _ _
    (c.append.ensures.any_moment (header_for before) kept.records kept.rest)
    (with_or_without kept.records before c.args.self.now.core c.args.entry.now kept.lead step)

pub returns-in-Ok-clause-kept : goal.returns-in-Ok-clause-kept
returns-in-Ok-clause-kept g c before step kept =
    kept_more g.D.Disk.tells g.D.Disk.seen g.D.Disk.may_leave g.D.Disk.moment g.D.Disk.left_since kept.records before
    c.args.self.now.core c.args.entry.now _ kept.lead step
    (c.in-Ok.ensures.added (header_for before) kept.records kept.rest)

pub returns-in-Err-clause-any_moment : goal.returns-in-Err-clause-any_moment
returns-in-Err-clause-any_moment g c before step kept =
    weaker g.D.Disk.tells g.D.Disk.seen g.D.Disk.may_leave g.D.Disk.moment g.D.Disk.left_since (disk_of c.args.self.now.log)
    (disk_of c.append.new.self) _ _
    (c.append.ensures.any_moment (header_for before) kept.records kept.rest)
    (with_or_without kept.records before c.args.self.now.core c.args.entry.now kept.lead step)
