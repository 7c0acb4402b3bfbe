use Rattle.world_watch.proofs.Reading.{watch_begins, watch_goes_on}
use Rattle.world_watch.proofs.Telling.{events_tell}
use Rattle.world_watch.proofs.laws.watch_is_read.Goals as goal

pub returns-clause-begins : goal.returns-clause-begins
returns-clause-begins c = watch_begins c.guesses_are_read.ensures.first

pub returns-clause-goes_on : goal.returns-clause-goes_on
returns-clause-goes_on c = watch_goes_on c.guesses_are_read.ensures.on

pub returns-clause-events : goal.returns-clause-events
returns-clause-events c = events_tell
