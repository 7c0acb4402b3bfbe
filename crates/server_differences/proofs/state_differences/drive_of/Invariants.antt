use Rattle.std.specs.Prelude.{◌≡◌, ◌==◌, drop, find}
use Rattle.server_differences.proofs.state_differences.drive_of.Given as goal

abbrev pub invariant-loop-drive : goal.invariant-loop-drive
invariant-loop-drive l =
    find (λ d. d.number == l.fn.number) (drop l.drive-index l.fn.drives) ≡ find (λ d. d.number == l.fn.number) l.fn.drives
