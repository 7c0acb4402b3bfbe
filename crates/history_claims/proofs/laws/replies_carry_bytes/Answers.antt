use Rattle.history_claims.proofs.Carrying.{replies_carry_bytes}
use Rattle.history_claims.proofs.laws.replies_carry_bytes.Goals as goal

pub returns : goal.returns
returns c = replies_carry_bytes
