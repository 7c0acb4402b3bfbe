use Rattle.std.proofs.Common.{◌≡◌, drop}
use Rattle.server_command.specs.Drives.{with_drives}
use Rattle.server_command.proofs.drives.add_drives.Given as goal

abbrev pub invariant-loop-drive : goal.invariant-loop-drive
invariant-loop-drive l = with_drives l.core (drop l.drive-index l.fn.drives) ≡ with_drives l.fn.core l.fn.drives
