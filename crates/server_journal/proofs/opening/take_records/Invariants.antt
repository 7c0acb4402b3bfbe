use Rattle.std.proofs.Common.{◌≡◌, ◌-◌, ◌^◌}
use Rattle.osd_disk.specs.Crashes.{OnlyRead}
use Rattle.gate_log.specs.Standing.{place_of, read_disk}
use Rattle.server_journal.specs.Opening.{HasTaken}
use Rattle.server_journal.proofs.opening.take_records.Given as goal

abbrev pub invariant-loop-body : goal.invariant-loop-body
invariant-loop-body g l = record {
  taken : HasTaken g.D.Disk l.initial.restoration l.initial.made l.initial.noted l.initial.reader
      → HasTaken g.D.Disk l.restoration l.made l.noted l.reader;
  place : l.at ≡ place_of l.reader;
  disk : OnlyRead g.D.Disk.tells g.D.Disk.seen g.D.Disk.may_leave g.D.Disk.moment g.D.Disk.left_since (read_disk l.initial.reader)
      (read_disk l.reader);
  count : g.D.Disk.faults (read_disk l.reader) ≡ g.D.Disk.faults (read_disk l.initial.reader);
}

abbrev pub decreases-loop-body : goal.decreases-loop-body
decreases-loop-body g l = 2 ^ 63 - place_of l.reader
