use Rattle.std.proofs.Common.{◌≡◌, ◌+◌, drop}
use Rattle.server_entries.specs.Making.{drive_place}
use Rattle.entry_replay.proofs.drives.place_of.Given as goal

abbrev pub invariant-loop-i : goal.invariant-loop-i
invariant-loop-i l = drive_place (drop l.i l.fn.drives) l.number + l.i ≡ drive_place l.fn.drives l.number
