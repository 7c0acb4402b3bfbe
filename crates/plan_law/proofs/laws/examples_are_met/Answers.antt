use Rattle.plan_law.proofs.Examples.{examples_are_met}
use Rattle.plan_law.proofs.laws.examples_are_met.Goals as goal

pub returns : goal.returns
returns c = examples_are_met
