use Rattle.calm_law.proofs.Giving.{moves_give}
use Rattle.calm_law.proofs.laws.moves_give.Goals as goal

pub returns : goal.returns
returns c =
    moves_give (record {
      book = c.book_is_read.ensures;
      reading = c.step_is_read.ensures;
      moves = c.server_moves.ensures;
      net = c.steps_tell.ensures;
      files = c.moves_show_files.ensures;
      drives = c.drives_are_read.ensures;
      declared = c.declared_have_failed.ensures;
      others = c.server_writes_to_others.ensures;
      guards = c.sightings_are_the_worlds.ensures.guards;
      messages = c.messages_are_read.ensures;
      moment = c.reading_goes_on.ensures.moment;
    })
