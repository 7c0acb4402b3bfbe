use Rattle.std.proofs.Common.{refl}
use Rattle.layout_world.proofs.following.follow.Goals as goal

pub returns-in-Alone-clause-finishes : goal.returns-in-Alone-clause-finishes
returns-in-Alone-clause-finishes g c = rw c.in-Alone.is (λ i w e before watch f. record { plan = _; far = f; over = refl })

pub returns-in-Prompt-clause-finishes : goal.returns-in-Prompt-clause-finishes
returns-in-Prompt-clause-finishes g c = rw c.in-Prompt.is c.prompt.ensures.finishes
