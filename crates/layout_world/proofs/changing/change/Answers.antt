use Rattle.world_history.specs.Moves.{begins}
use Rattle.layout_world.proofs.Acted.{held}
use Rattle.layout_world.proofs.changing.change.Goals as goal

pub returns-in-Least : goal.returns-in-Least
unfolding begins
returns-in-Least c = rw c.in-Least.is (held c.raise_least.result _ _ c.raise_least.ensures)

pub returns-in-DropMessage : goal.returns-in-DropMessage
unfolding begins
returns-in-DropMessage c = rw c.in-DropMessage.is (λ _. c.drop_message.ensures)

pub returns-in-Stop : goal.returns-in-Stop
unfolding begins
returns-in-Stop c = rw c.in-Stop.is (λ _. c.stop.ensures)

pub returns-in-Fail : goal.returns-in-Fail
unfolding begins
returns-in-Fail c = rw c.in-Fail.is (held c.fail.result _ _ c.fail.ensures)
