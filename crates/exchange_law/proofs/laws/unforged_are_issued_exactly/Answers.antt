use Rattle.exchange_law.proofs.Exact.{unforged_are_issued_exactly}
use Rattle.exchange_law.proofs.laws.unforged_are_issued_exactly.Goals as goal

pub returns : goal.returns
returns c =
    unforged_are_issued_exactly c.unforged_are_issued.ensures c.fronts_are_lawful.ensures c.messages_fit.ensures
