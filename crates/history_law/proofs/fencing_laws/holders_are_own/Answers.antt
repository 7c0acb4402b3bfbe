use Rattle.history_law.proofs.HolderLaw.{each_holder}
use Rattle.history_law.proofs.fencing_laws.holders_are_own.Goals as goal

pub returns : goal.returns
returns c = each_holder c.commands_are_issued.ensures c.unforged_are_issued.ensures
