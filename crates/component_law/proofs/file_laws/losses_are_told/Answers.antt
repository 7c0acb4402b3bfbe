use Rattle.component_law.proofs.StepTelling.{losses_told}
use Rattle.component_law.proofs.file_laws.losses_are_told.Goals as goal

pub returns : goal.returns
returns c = losses_told c.parties_run.ensures
