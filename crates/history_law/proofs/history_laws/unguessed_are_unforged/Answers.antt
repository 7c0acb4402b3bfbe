use Rattle.history_law.proofs.Unforged.{unguessed_are_unforged}
use Rattle.history_law.proofs.history_laws.unguessed_are_unforged.Goals as goal

pub returns : goal.returns
returns c = unguessed_are_unforged
