use Rattle.std.proofs.Common.{◌≡◌, drop}
use Rattle.std.specs.Prelude.{◌==◌, find, is_some}
use Rattle.server_rules.specs.declared.server.Drive.{Drive}
use Rattle.layout_server.proofs.lost_drives.is_known.Given as goal

abbrev pub invariant-loop-drive : goal.invariant-loop-drive
invariant-loop-drive l =
    is_some (find (λ (d : Drive). d.number == l.number) (drop l.drive-index l.fn.drives))
    ≡ is_some (find (λ (d : Drive). d.number == l.number) l.fn.drives)
