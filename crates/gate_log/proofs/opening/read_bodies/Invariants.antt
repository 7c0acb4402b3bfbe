use Rattle.std.proofs.Common.{◌≡◌, ◌-◌, ◌^◌, ℕ, List, []}
use Rattle.osd_disk.specs.Crashes.{OnlyRead}
use Rattle.gate_log.specs.Standing.{HasRead, header_of, place_of, read_disk}
use Rattle.gate_log.proofs.opening.read_bodies.Given as goal

abbrev pub invariant-records : goal.invariant-records
invariant-records g l = record {
  read : (header : List ℕ) → HasRead g.D.Disk.tells g.D.Disk.seen g.D.Disk.may_leave header [] l.initial.reader
      → HasRead g.D.Disk.tells g.D.Disk.seen g.D.Disk.may_leave header l.bodies l.reader;
  header : header_of l.reader ≡ header_of l.initial.reader;
  disk : OnlyRead g.D.Disk.tells g.D.Disk.seen g.D.Disk.may_leave g.D.Disk.moment g.D.Disk.left_since (read_disk l.initial.reader)
      (read_disk l.reader);
  count : g.D.Disk.faults (read_disk l.reader) ≡ g.D.Disk.faults (read_disk l.initial.reader);
}

abbrev pub decreases-records : goal.decreases-records
decreases-records g l = 2 ^ 63 - place_of l.reader
