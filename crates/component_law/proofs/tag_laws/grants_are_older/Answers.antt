use Rattle.component_law.proofs.Holding.{grants_are_older}
use Rattle.component_law.proofs.tag_laws.grants_are_older.Goals as goal

pub returns : goal.returns
returns c =
    grants_are_older c.each_step_raises_tags.ensures c.files_are_put.ensures c.reading_goes_on.ensures.server
    c.reading_goes_on.ensures.lines c.seen_is_sound.ensures
