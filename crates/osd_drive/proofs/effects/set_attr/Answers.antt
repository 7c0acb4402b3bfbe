use Rattle.osd_drive.proofs.Clear.{clear_late}
use Rattle.osd_drive.proofs.Ready.{has_room, takes_attribute}
use Rattle.osd_drive.proofs.effects.set_attr.Goals as goal

pub set_attr-requires-clause-room : goal.set_attr-requires-clause-room
set_attr-requires-clause-room c = let clear = clear_late _ _ c.requires.late in
    takes_attribute _ _ c.requires.attribute (rw c.requires.action at clear.attribute)

pub set_attr-requires-clause-lane : goal.set_attr-requires-clause-lane
set_attr-requires-clause-lane c = let clear = clear_late _ _ c.requires.late in
    rw c.lane_for.ensures (has_room _ _ (rw c.requires.action at clear.lane))
