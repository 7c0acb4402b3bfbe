use Rattle.component_law.proofs.StepTelling.{losses_told}
use Rattle.calm_law.proofs.Stepping.{steps_tell}
use Rattle.calm_law.proofs.laws.steps_tell.Goals as goal

pub returns : goal.returns
returns c = steps_tell (losses_told c.parties_run.ensures)
