use Rattle.history_law.proofs.Safe.{drives_are_read}
use Rattle.history_law.proofs.history_laws.drives_are_read.Goals as goal

pub returns : goal.returns
returns c = drives_are_read
