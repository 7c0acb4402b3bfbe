use Rattle.osd_drive.proofs.Clear.{clear_late}
use Rattle.osd_drive.proofs.Ready.{absent}
use Rattle.osd_drive.proofs.effects.create.Goals as goal

pub create-requires : goal.create-requires
create-requires c = let clear = clear_late _ _ c.requires.late in absent _ (rw c.requires.action at clear.finds)
