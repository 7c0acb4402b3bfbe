use Rattle.exchange_law.proofs.ClientAsking.{one_request}
use Rattle.exchange_law.proofs.laws.one_request.Goals as goal

pub returns : goal.returns
returns c = one_request
