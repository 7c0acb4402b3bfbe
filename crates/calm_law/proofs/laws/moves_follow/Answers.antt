use Rattle.calm_law.proofs.MoveFollowing.{move_follows}
use Rattle.calm_law.proofs.Events.{event_follows}
use Rattle.calm_law.proofs.Watching.{watches_event}
use Rattle.calm_law.proofs.laws.moves_follow.Goals as goal

pub returns-clause-one : goal.returns-clause-one
returns-clause-one c =
    move_follows c.calm_is_followed.ensures.on c.calm_is_followed.ensures.events c.pending_is_read.ensures
    c.reading_goes_on.ensures.moment c.moves_give.ensures

pub returns-clause-all : goal.returns-clause-all
returns-clause-all c = event_follows (returns-clause-one c)

pub returns-clause-watched : goal.returns-clause-watched
returns-clause-watched c = watches_event (returns-clause-all c)
