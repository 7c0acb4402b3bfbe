use Rattle.history_claims.proofs.Creates.{each_file_is_created}
use Rattle.history_claims.proofs.laws.files_are_created.Goals as goal

pub returns : goal.returns
returns c =
    each_file_is_created c.files_are_put.ensures c.reading_goes_on.ensures.server c.reading_goes_on.ensures.lines
    c.one_event_more.ensures
