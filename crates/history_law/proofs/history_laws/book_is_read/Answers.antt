use Rattle.history_law.proofs.BookMoments.{book_is_read}
use Rattle.history_law.proofs.history_laws.book_is_read.Goals as goal

pub returns : goal.returns
returns c = book_is_read c.reading_goes_on.ensures.server c.reading_goes_on.ensures.lines
