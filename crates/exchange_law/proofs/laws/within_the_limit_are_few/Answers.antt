use Rattle.exchange_law.proofs.Bytes.{within_the_limit_are_few}
use Rattle.exchange_law.proofs.laws.within_the_limit_are_few.Goals as goal

pub returns : goal.returns
returns c = within_the_limit_are_few
