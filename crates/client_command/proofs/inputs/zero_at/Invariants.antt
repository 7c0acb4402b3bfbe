use Rattle.std.proofs.Common.{◌≡◌, ◌+◌, drop}
use Rattle.client_command.specs.Inputs.{zero_at}
use Rattle.client_command.proofs.inputs.zero_at.Given as goal

abbrev pub invariant-loop-i : goal.invariant-loop-i
invariant-loop-i l = zero_at (drop l.i l.fn.input) + l.i ≡ zero_at l.fn.input
