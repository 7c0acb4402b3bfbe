use Rattle.exchange_law.proofs.Exact.{commands_are_issued_exactly}
use Rattle.exchange_law.proofs.laws.commands_are_issued_exactly.Goals as goal

pub returns : goal.returns
returns c =
    commands_are_issued_exactly c.commands_are_issued.ensures c.fronts_are_lawful.ensures c.messages_fit.ensures
