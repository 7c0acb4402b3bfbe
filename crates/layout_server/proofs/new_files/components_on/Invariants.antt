use Rattle.std.proofs.Common.{◌≡◌, ◌++◌, ◌+◌, drop}
use Rattle.server_rules.specs.Making.{components_on}
use Rattle.layout_server.proofs.new_files.components_on.Given as goal

abbrev pub invariant-loop-i : goal.invariant-loop-i
invariant-loop-i l = l.components ++ components_on (drop l.i l.fn.drives) (l.object + l.i) ≡ components_on l.fn.drives l.object
