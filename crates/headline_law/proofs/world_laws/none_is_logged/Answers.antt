use Rattle.headline_law.proofs.CreationShown.{none_is_logged_at_cuts}
use Rattle.headline_law.proofs.Histories.{creations}
use Rattle.headline_law.proofs.RoomCuts.{cuts_have_room}
use Rattle.headline_law.proofs.world_laws.none_is_logged.Goals as goal

pub returns : goal.returns
returns c = none_is_logged_at_cuts (creations c.histories_are_lawful.ensures cuts_have_room)
