use Rattle.osd_drive.proofs.Clear.{clear_late}
use Rattle.osd_drive.proofs.Ready.{has_room, other_tag}
use Rattle.osd_drive.proofs.effects.set_tag.Goals as goal

pub next_tag_of-tag-requires : goal.next_tag_of-tag-requires
next_tag_of-tag-requires c = let clear = clear_late _ _ c.requires.late in other_tag _ (rw c.requires.action at clear.tag)

pub set_tag-requires-clause-lane : goal.set_tag-requires-clause-lane
set_tag-requires-clause-lane c = let clear = clear_late _ _ c.requires.late in
    rw c.lane_for.ensures (has_room _ _ (rw c.requires.action at clear.lane))
