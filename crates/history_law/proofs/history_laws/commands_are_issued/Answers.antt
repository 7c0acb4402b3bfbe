use Rattle.history_law.proofs.IssuedLaw.{commands_are_issued}
use Rattle.history_law.proofs.history_laws.commands_are_issued.Goals as goal

pub returns : goal.returns
returns c = commands_are_issued
