use Rattle.std.proofs.Common.{◌≡◌, take, Some}
use Rattle.kept_server.specs.Restoring.{restored}
use Rattle.kept_server.proofs.restoration.restore.Given as goal

abbrev pub invariant-loop-place : goal.invariant-loop-place
invariant-loop-place l = restored (take l.place l.records) ≡ Some l.restoration
