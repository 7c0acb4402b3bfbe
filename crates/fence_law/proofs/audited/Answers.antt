use Rattle.fence_law.proofs.Judge.{is_audited}
use Rattle.fence_law.proofs.audited.Goals as goal

pub returns : goal.returns
returns c = is_audited
