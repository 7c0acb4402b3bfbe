use Rattle.std.proofs.Common.{arith}
use Rattle.osd_drive.proofs.Clear.{ready}
use Rattle.drive_store.proofs.GatheringLaws.{leads_on}
use Rattle.drive_store.proofs.RecordLaws.{change_fits}
use Rattle.drive_store.proofs.gathering.GatheringDrive.gather_change.Goals as goal

pub new-requires-clause-some : goal.new-requires-clause-some
new-requires-clause-some g c =
    omega (
      arith,
      (change_fits c.args.self.now.core c.args.now c.args.message.now c.args.c.now c.requires.change c.requires.sized).0,
    )

pub new-requires-clause-fits : goal.new-requires-clause-fits
new-requires-clause-fits g c =
    omega (
      arith,
      (change_fits c.args.self.now.core c.args.now c.args.message.now c.args.c.now c.requires.change c.requires.sized).1,
    )

pub perform-requires-clause-late : goal.perform-requires-clause-late
perform-requires-clause-late g c = (ready c.args.self.now.core c.args.now c.args.c.now c.requires.change.verdict).late

pub returns-in-Ok-clause-gathered : goal.returns-in-Ok-clause-gathered
returns-in-Ok-clause-gathered g c first l =
    leads_on first c.args.self.now _ l c.args.now c.args.message.now c.in_ok-entry.entry c.args.c.now c.requires.change
    c.in_ok-reply.ensures.state c.in_ok-entry.ensures c.in-Ok.ensures.ok
