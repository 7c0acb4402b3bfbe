use Rattle.std.proofs.Common.{arith}
use Rattle.entry_replay.proofs.DriveLaws.{drives_put}
use Rattle.entry_replay.proofs.drives.apply_drive.Goals as goal

pub returns-clause-ready : goal.returns-clause-ready
returns-clause-ready c =
    drives_put c.args.state.now c.put_drive.new.drives c.args.drive.now c.requires.ready
    (omega (arith, c.if-drive-ge-MAX_DRIVES.false))
    c.in_ok-put_drive.ensures.put
