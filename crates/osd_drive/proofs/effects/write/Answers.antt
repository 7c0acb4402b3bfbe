use Rattle.std.proofs.Common.{arith}
use Rattle.osd_drive.proofs.Clear.{clear_late}
use Rattle.osd_drive.proofs.Ready.{has_room, has_space}
use Rattle.osd_drive.proofs.effects.write.Goals as goal

pub write-requires-clause-end : goal.write-requires-clause-end
write-requires-clause-end c =
    let clear = clear_late _ _ c.requires.late in
    let range = rw (c.requires.action, ← c.requires.sized) at clear.range in
    rw c.as_slice-bytes.ensures (grind (arith, range))

pub write-requires-clause-space : goal.write-requires-clause-space
write-requires-clause-space c =
    let clear = clear_late _ _ c.requires.late in
    let space = rw (c.requires.action, ← c.requires.sized) at clear.space in
    rw c.as_slice-bytes.ensures (has_space _ _ _ _ space)

pub write-requires-clause-lane : goal.write-requires-clause-lane
write-requires-clause-lane c = let clear = clear_late _ _ c.requires.late in
    rw c.lane_for.ensures (has_room _ _ (rw c.requires.action at clear.lane))
