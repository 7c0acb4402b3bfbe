use Rattle.stripe_plan.specs.Indexed.{AreEmpty}
use Rattle.stripe_plan.proofs.row_index.empty_lists.Given as goal

abbrev pub invariant-loop : goal.invariant-loop
invariant-loop l = AreEmpty l.counter l.lists
