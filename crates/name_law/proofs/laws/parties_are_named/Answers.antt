use Rattle.name_law.proofs.DriveNames.{parties_named}
use Rattle.name_law.proofs.laws.parties_are_named.Goals as goal

pub returns : goal.returns
returns c = parties_named c.one_event_more.ensures
