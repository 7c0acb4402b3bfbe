use Rattle.std.specs.Prelude.{◌≡◌, ◌++◌, drop}
use Rattle.server_differences.specs.Differences.{drives_entries}
use Rattle.server_differences.proofs.state_differences.add_drives.Given as goal

abbrev pub invariant-loop-drive : goal.invariant-loop-drive
invariant-loop-drive l =
    l.entries ++ drives_entries l.fn.old (drop l.drive-index l.fn.drives) ≡ l.fn.entries ++ drives_entries l.fn.old l.fn.drives
