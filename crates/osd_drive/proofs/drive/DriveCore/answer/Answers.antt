use Rattle.std.proofs.Common.{arith}
use Rattle.osd_drive.proofs.drive.DriveCore.answer.Goals as goal

pub perform-requires-clause-sized : goal.perform-requires-clause-sized
perform-requires-clause-sized c = λ writes. let allowed = rw writes at c.requires.sized in grind (arith, allowed)
