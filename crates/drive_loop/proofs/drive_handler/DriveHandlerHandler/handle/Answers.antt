use Rattle.drive_command.proofs.ShortRecords.{spelled-short}
use Rattle.drive_loop.proofs.drive_handler.DriveHandlerHandler.handle.Goals as goal

pub returns-clause-short : goal.returns-clause-short
returns-clause-short g c = rw c.in_ok-bytes.ensures.spelled (spelled-short c.in-Ok.reply c.in-Ok.ensures.short)
