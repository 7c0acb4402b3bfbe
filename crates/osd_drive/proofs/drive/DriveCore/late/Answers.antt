use Rattle.osd_drive.proofs.Clear.{late_told}
use Rattle.osd_drive.proofs.drive.DriveCore.late.Goals as goal

pub returns-clause-none : goal.returns-clause-none
returns-clause-none c = rw c.first_late.ensures (late_told c.args.self.now c.args.c.now)
