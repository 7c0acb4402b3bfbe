use Rattle.std.proofs.Common.{◌≡◌, ◌≤◌, ◌-◌, IsTrue, length, take, drop}
use Rattle.osd_disk.specs.Crashes.{OnlyRead}
use Rattle.osd_disk.proofs.whole.read_whole.Given as goal

abbrev pub invariant-loop-done : goal.invariant-loop-done
invariant-loop-done g l = record {
  bound : l.done ≤ length l.buf;
  bytes : IsTrue (g.D.Disk.tells l.initial.disk) → take l.done l.buf ≡ take l.done (drop l.at (g.D.Disk.seen l.initial.disk));
  disk : OnlyRead g.D.Disk.tells g.D.Disk.seen g.D.Disk.may_leave g.D.Disk.moment g.D.Disk.left_since l.initial.disk l.disk;
  count : g.D.Disk.faults l.disk ≡ g.D.Disk.faults l.initial.disk;
}

abbrev pub decreases-loop-done : goal.decreases-loop-done
decreases-loop-done g l = length l.buf - l.done
