use Rattle.history_law.proofs.HistoryTelling.{replies_tell}
use Rattle.history_law.proofs.history_laws.replies_tell.Goals as goal

pub returns : goal.returns
returns c = replies_tell
