use Rattle.cause_law.proofs.Noting.{each_component_has_its_causes}
use Rattle.cause_law.proofs.cause_laws.components_have_causes.Goals as goal

pub returns : goal.returns
returns c =
    each_component_has_its_causes c.server_moves.ensures c.each_step_tells.ensures c.seen_is_sound.ensures
    c.book_is_read.ensures c.step_is_read.ensures c.one_event_more.ensures c.reading_goes_on.ensures.server
