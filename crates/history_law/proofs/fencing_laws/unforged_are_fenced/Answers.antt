use Rattle.history_law.proofs.FencingFences.{unforged_are_fenced}
use Rattle.history_law.proofs.fencing_laws.unforged_are_fenced.Goals as goal

pub returns : goal.returns
returns c =
    unforged_are_fenced c.book_is_read.ensures c.one_event_more.ensures c.fronts_are_lawful.ensures
    c.holder_is_server.ensures
