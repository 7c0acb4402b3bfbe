use Rattle.std.proofs.Common.{◌≡◌, drop}
use Rattle.std.specs.Prelude.{find}
use Rattle.server_requests.specs.Keys.{with_number}
use Rattle.server_requests.proofs.seals.drive_at.Given as goal

abbrev pub invariant-loop-drive : goal.invariant-loop-drive
invariant-loop-drive l = find (with_number l.number) (drop l.drive-index l.fn.drives) ≡ find (with_number l.number) l.fn.drives
