use Rattle.std.specs.Prelude.{◌≡◌, ◌++◌, drop}
use Rattle.stored_server.specs.Differences.{further_drives}
use Rattle.stored_server.proofs.differences.add_further_drives.Given as goal

abbrev pub invariant-loop-drive : goal.invariant-loop-drive
invariant-loop-drive l =
    l.differences ++ further_drives l.fn.text (drop l.drive-index l.fn.drives)
    ≡ l.fn.differences ++ further_drives l.fn.text l.fn.drives
