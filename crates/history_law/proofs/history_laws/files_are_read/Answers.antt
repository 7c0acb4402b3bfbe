use Rattle.history_law.proofs.BookMoments.{files_are_read}
use Rattle.history_law.proofs.history_laws.files_are_read.Goals as goal

pub returns : goal.returns
returns c = files_are_read c.reading_goes_on.ensures.server c.reading_goes_on.ensures.lines
