use Rattle.component_law.proofs.BarredLaw.{given_is_barred}
use Rattle.component_law.proofs.tag_laws.given_is_barred.Goals as goal

pub returns : goal.returns
returns c =
    given_is_barred c.book_is_read.ensures c.one_event_more.ensures c.fences_end.ensures c.reached_refuses.ensures
    c.fronts_are_lawful.ensures c.holder_is_server.ensures c.grants_are_older.ensures
