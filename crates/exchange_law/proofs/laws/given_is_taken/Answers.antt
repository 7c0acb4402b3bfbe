use Rattle.exchange_law.proofs.HeldTaken.{given_is_taken}
use Rattle.exchange_law.proofs.laws.given_is_taken.Goals as goal

pub returns : goal.returns
returns c = given_is_taken
