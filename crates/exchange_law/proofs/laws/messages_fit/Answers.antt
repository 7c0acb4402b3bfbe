use Rattle.exchange_law.proofs.Fitting.{messages_fit}
use Rattle.exchange_law.proofs.laws.messages_fit.Goals as goal

pub returns : goal.returns
returns c = messages_fit
