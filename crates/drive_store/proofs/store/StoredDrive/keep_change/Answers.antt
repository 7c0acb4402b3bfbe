use Rattle.std.proofs.Common.{sym, ◌∙◌, arith}
use Rattle.gate_log.specs.Standing.{disk_of}
use Rattle.osd_drive.proofs.Clear.{ready}
use Rattle.drive_store.proofs.RecordLaws.{change_after, change_fits, change_step}
use Rattle.drive_store.proofs.StoreLaws.{either_so}
use Rattle.drive_store.proofs.store.StoredDrive.keep_change.Goals as goal

pub new-requires-clause-some : goal.new-requires-clause-some
new-requires-clause-some g c =
    omega (
      arith,
      (change_fits c.args.self.now.core c.args.now c.args.message.now c.args.c.now c.requires.change c.requires.sized).0,
    )

pub new-requires-clause-fits : goal.new-requires-clause-fits
new-requires-clause-fits g c =
    omega (
      arith,
      (change_fits c.args.self.now.core c.args.now c.args.message.now c.args.c.now c.requires.change c.requires.sized).1,
    )

pub perform-requires-clause-late : goal.perform-requires-clause-late
perform-requires-clause-late g c = (ready c.args.self.now.core c.args.now c.args.c.now c.requires.change.verdict).late

pub returns-in_err-log_step-clause-any_moment : goal.returns-in_err-log_step-clause-any_moment
returns-in_err-log_step-clause-any_moment g c kept =
    let d = c.args.self.now.core in
    let is = c.requires.change in
    either_so g.D.Disk.tells g.D.Disk.seen g.D.Disk.may_leave g.D.Disk.moment g.D.Disk.left_since (disk_of c.args.self.now.log)
    (disk_of c.log_step.new.self.log) d c.perform.new.self _
    (change_after d c.args.now c.args.message.now c.args.c.now is ∙ sym c.in_ok-reply.ensures.state)
    (c.log_step.ensures.any_moment d
    (change_step d c.perform.new.self c.args.now c.args.message.now c.in_ok-entry.entry c.args.c.now is
    c.in_ok-reply.ensures.state c.in_ok-entry.ensures) kept)

pub returns-clause-any_moment : goal.returns-clause-any_moment
returns-clause-any_moment g c kept =
    let d = c.args.self.now.core in
    let is = c.requires.change in
    either_so g.D.Disk.tells g.D.Disk.seen g.D.Disk.may_leave g.D.Disk.moment g.D.Disk.left_since (disk_of c.args.self.now.log)
    (disk_of c.log_step.new.self.log) d c.perform.new.self _
    (change_after d c.args.now c.args.message.now c.args.c.now is ∙ sym c.in_ok-reply.ensures.state)
    (c.log_step.ensures.any_moment d
    (change_step d c.perform.new.self c.args.now c.args.message.now c.in_ok-entry.entry c.args.c.now is
    c.in_ok-reply.ensures.state c.in_ok-entry.ensures) kept)

pub returns-clause-kept : goal.returns-clause-kept
returns-clause-kept g c kept =
    let d = c.args.self.now.core in
    c.in_ok-log_step.ensures.kept d
    (change_step d c.perform.new.self c.args.now c.args.message.now c.in_ok-entry.entry c.args.c.now c.requires.change
    c.in_ok-reply.ensures.state c.in_ok-entry.ensures) kept
