use Rattle.headline_law.proofs.Whole.{audits_find}
use Rattle.headline_law.proofs.headline_laws.audits_find_none.Goals as goal

pub returns : goal.returns
returns c = audits_find c.histories_are_lawful.ensures c.machine_is_lawful.ensures
