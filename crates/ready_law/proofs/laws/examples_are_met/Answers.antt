use Rattle.ready_law.proofs.Examples.{examples_are_met}
use Rattle.ready_law.proofs.laws.examples_are_met.Goals as goal

pub returns : goal.returns
returns c = examples_are_met
