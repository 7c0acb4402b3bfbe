use Rattle.lossless_law.proofs.CalmHistories.{lossless_history_is_calm}
use Rattle.lossless_law.proofs.laws.lossless_is_calm.Goals as goal

pub returns : goal.returns
returns c =
    lossless_history_is_calm c.reading_goes_on.ensures.server c.reading_goes_on.ensures.lines c.messages_are_read.ensures
    c.components_have_causes.ensures c.server_writes_to_others.ensures
