use Rattle.history_law.proofs.BookMoments.{step_is_read}
use Rattle.history_law.proofs.history_laws.step_is_read.Goals as goal

pub returns : goal.returns
returns c = step_is_read c.reading_goes_on.ensures.server c.reading_goes_on.ensures.lines
