use Rattle.osd_drive.proofs.Clear.{all_told, ready}
use Rattle.osd_drive.proofs.drive.DriveCore.verdict.Goals as goal

pub returns-clause-none : goal.returns-clause-none
returns-clause-none c = rw c.first_verdict.ensures (all_told c.args.self.now c.args.now c.args.c.now)

pub returns-clause-ready : goal.returns-clause-ready
returns-clause-ready c = rw c.first_verdict.ensures (ready c.args.self.now c.args.now c.args.c.now)
