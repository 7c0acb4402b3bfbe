use Rattle.history_claims.proofs.ShortLaw.{repairs_leave_short}
use Rattle.history_claims.proofs.laws.repairs_leave_counted_short.Goals as goal

pub returns : goal.returns
returns c = repairs_leave_short c.seen_is_sound.ensures
