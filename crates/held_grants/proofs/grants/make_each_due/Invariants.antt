use Rattle.std.proofs.Common.{◌≡◌}
use Rattle.std.specs.Map.{values_of}
use Rattle.client_rules.specs.Steps.{all_due}
use Rattle.held_grants.proofs.grants.make_each_due.Given as goal

abbrev pub invariant-loop-held : goal.invariant-loop-held
invariant-loop-held l = all_due l.dues (values_of l.held-iterator) ≡ all_due l.fn.dues (values_of l.by_file.entries)
