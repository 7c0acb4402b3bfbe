use Rattle.history_claims.proofs.StoredLines.{writes_are_stored}
use Rattle.history_claims.proofs.laws.writes_are_stored.Goals as goal

pub returns : goal.returns
returns c = writes_are_stored c.ends_are_caused.ensures
