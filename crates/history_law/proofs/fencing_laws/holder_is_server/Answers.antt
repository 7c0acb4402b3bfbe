use Rattle.history_law.proofs.HolderLaw.{unforged_holder}
use Rattle.history_law.proofs.fencing_laws.holder_is_server.Goals as goal

pub returns : goal.returns
returns c = unforged_holder c.holders_are_own.ensures
