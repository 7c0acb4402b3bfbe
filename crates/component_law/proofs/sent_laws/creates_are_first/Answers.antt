use Rattle.component_law.proofs.BirthRuns.{creates_are_first}
use Rattle.component_law.proofs.sent_laws.creates_are_first.Goals as goal

pub returns : goal.returns
returns c = creates_are_first
