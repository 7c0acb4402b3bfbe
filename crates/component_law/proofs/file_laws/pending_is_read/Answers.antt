use Rattle.component_law.proofs.Pending.{pending_is_read}
use Rattle.component_law.proofs.file_laws.pending_is_read.Goals as goal

pub returns : goal.returns
returns c = pending_is_read
