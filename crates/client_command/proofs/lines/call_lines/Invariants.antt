use Rattle.std.proofs.Common.{◌≡◌, ◌++◌, drop}
use Rattle.client_command.specs.Lines.{call_lines}
use Rattle.client_command.proofs.lines.call_lines.Given as goal

abbrev pub invariant-loop-notice : goal.invariant-loop-notice
invariant-loop-notice l =
    l.lines ++ call_lines l.client l.kind (drop l.notice-index l.notices) ≡ call_lines l.client l.kind l.notices
