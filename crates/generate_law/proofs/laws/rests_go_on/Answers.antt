use Rattle.generate_law.proofs.Resting.{rests_go_on, first_rest_begins}
use Rattle.generate_law.proofs.laws.rests_go_on.Goals as goal

pub returns : goal.returns
returns c = record { calls = rests_go_on; first = first_rest_begins }
