use Rattle.name_law.proofs.ClientTells.{outcomes_are_told}
use Rattle.name_law.proofs.laws.outcomes_are_told.Goals as goal

pub returns : goal.returns
returns c = outcomes_are_told c.one_event_more.ensures c.answers_are_own.ensures c.grants_are_safe.ensures
