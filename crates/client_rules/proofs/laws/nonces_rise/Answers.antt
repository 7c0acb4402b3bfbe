use Rattle.client_rules.proofs.Numbering.{nonces_rise}
use Rattle.client_rules.proofs.laws.nonces_rise.Goals as goal

pub returns : goal.returns
returns c = nonces_rise
