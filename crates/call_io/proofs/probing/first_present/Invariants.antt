use Rattle.std.proofs.Common.{◌≡◌, drop}
use Rattle.client_rules.specs.Reads.{first_present}
use Rattle.call_io.proofs.probing.first_present.Given as goal

abbrev pub invariant-loop-listed : goal.invariant-loop-listed
invariant-loop-listed l =
    first_present (drop l.listed-index l.fn.held.components) l.component ≡ first_present l.fn.held.components 0
