use Rattle.std.proofs.Common.{◌≡◌, drop}
use Rattle.server_entries.specs.Changes.{is_known}
use Rattle.entry_replay.proofs.drives.is_known.Given as goal

abbrev pub invariant-loop-drive : goal.invariant-loop-drive
invariant-loop-drive l = is_known l.number (drop l.drive-index l.fn.drives) ≡ is_known l.number l.fn.drives
