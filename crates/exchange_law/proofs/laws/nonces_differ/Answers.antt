use Rattle.exchange_law.proofs.Numbers.{nonces_differ}
use Rattle.exchange_law.proofs.laws.nonces_differ.Goals as goal

pub returns : goal.returns
returns c = nonces_differ
