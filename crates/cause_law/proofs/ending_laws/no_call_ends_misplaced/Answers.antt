use Rattle.cause_law.proofs.Endings.{ends_rightly}
use Rattle.cause_law.proofs.ending_laws.no_call_ends_misplaced.Goals as goal

pub returns : goal.returns
returns c = ends_rightly c.commands_are_placed.ensures c.refusals_were_judged.ensures
