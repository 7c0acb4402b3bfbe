use Rattle.server_rules.proofs.GrantLaws.{holds}
use Rattle.server_rules.proofs.laws.asked_grants_hold_their_bytes.Goals as goal

pub returns : goal.returns
returns c = holds
