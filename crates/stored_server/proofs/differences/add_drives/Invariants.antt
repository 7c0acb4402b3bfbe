use Rattle.std.specs.Prelude.{◌≡◌, ◌++◌, drop}
use Rattle.stored_server.specs.Differences.{drives_differences}
use Rattle.stored_server.proofs.differences.add_drives.Given as goal

abbrev pub invariant-loop-drive : goal.invariant-loop-drive
invariant-loop-drive l =
    l.differences ++ drives_differences l.fn.drives (drop l.drive-index l.fn.text)
    ≡ l.fn.differences ++ drives_differences l.fn.drives l.fn.text
